-- Rounds and secure sets.
use Rattle.std.proofs.Common.{◌≡◌, ◌<◌, ◌≤◌, ◌+◌, ◌-◌, ℕ, zero, suc, refl, subst, arith}
use Rattle.lhg_plant.specs.Plant.{PlainPlant}
use Rattle.lhg_plant.specs.State.{PlainState, IsSafe}
use Rattle.lhg_plant.specs.Escape.{IsSecure}
use Rattle.lhg_plant.specs.Round.{InRound, IsRemovedIn, RemovesNothing, IsLastRound}
use Rattle.lhg_plant.proofs.Monotone.{escape_shrinks}

-- rounds hold safe states
pub round_safe : (a : PlainPlant) (i : ℕ) (s : PlainState) → InRound a i s → IsSafe a s
round_safe a zero s h = h
round_safe a (suc i) s h = round_safe a i s h.0

-- every secure set lies in every round
pub secure_in_round : (a : PlainPlant) (T : PlainState → Type 0) → IsSecure a T → (i : ℕ) (s : PlainState) → T s → InRound a i s
secure_in_round a T secure zero s t = secure.safe s t
secure_in_round a T secure (suc i) s t =
    (secure_in_round a T secure i s t, λ h. secure.closed s t (escape_shrinks a T (InRound a i) (secure_in_round a T secure i) s h))

-- rounds shrink
by_gap : (a : PlainPlant) (d i j : ℕ) (s : PlainState) → d + i ≡ j → InRound a j s → InRound a i s
by_gap a zero i j s e h = let same : j ≡ i = omega arith in subst (λ (n : ℕ). InRound a n s) same h
by_gap a (suc d) i zero s e h = absurd (omega arith)
by_gap a (suc d) i (suc j) s e h = by_gap a d i j s (omega arith) h.0

-- a later round lies in an earlier one
pub rounds_shrink : (a : PlainPlant) (i j : ℕ) (s : PlainState) → i ≤ j → InRound a j s → InRound a i s
rounds_shrink a i j s le h = by_gap a (j - i) i j s (omega arith) h

-- a state is removed in at most one round
not_later : (a : PlainPlant) (i j : ℕ) (s : PlainState) → IsRemovedIn a i s → IsRemovedIn a j s → i < j → ⊥
not_later a i j s h k less = h.gone (rounds_shrink a i k.round s (let e = k.number in omega arith) k.kept)

-- a state is removed in one round alone
pub removed_once : (a : PlainPlant) (i j : ℕ) (s : PlainState) → IsRemovedIn a i s → IsRemovedIn a j s → i ≡ j
removed_once a i j s h k = first (not_later a i j s h k) (not_later a j i s k h)
  where
    first : (i < j → ⊥) → (j < i → ⊥) → i ≡ j
    first f g = omega arith

-- a round that removes nothing leaves a secure set
pub settled_secure : (a : PlainPlant) (i : ℕ) → RemovesNothing a (suc i) → IsSecure a (InRound a i)
settled_secure a i settled = record {
  safe = round_safe a i;
  closed = λ s h escape. settled s (record { round = i; number = refl; kept = h; gone = λ later. later.1 escape });
}

-- after a round that removes nothing all later rounds are the same
pub settled_stays : (a : PlainPlant) (i j : ℕ) (s : PlainState) → RemovesNothing a (suc i) → InRound a i s → InRound a j s
settled_stays a i j s settled h = secure_in_round a (InRound a i) (settled_secure a i settled) j s h

-- there is at most one last round
pub last_once : (a : PlainPlant) (i j : ℕ) → IsLastRound a i → IsLastRound a j → i ≡ j
last_once a i j h k = same (λ l. k.first i h.counted l h.settled) (λ l. h.first j k.counted l k.settled)
  where
    same : (i < j → ⊥) → (j < i → ⊥) → i ≡ j
    same f g = omega arith
