-- A play in a still plant stays at its point, so where there is no switch no set has an escape, and round 1 removes nothing.
use Rattle.std.proofs.Common.{◌≡◌, ◌↔◌, ℕ, zero, suc, List, [], ◌∷◌, length, Some, None, slice_get, IsSomeAnd, refl, sym, ap, ◌∙◌, subst, inl, inr, arith}
use Rattle.lhg_math.specs.Number.{Number}
use Rattle.lhg_row.specs.Row.{PlainPoint}
use Rattle.lhg_row.specs.Piece.{PlainPiece}
use Rattle.lhg_motion.specs.Play.{PlainMove, IsPlay, last_point, EachPoint}
use Rattle.lhg_motion.specs.PlayLemmas.{earlier_none, earlier_one, earlier_more, earlier_weaken}
use Rattle.lhg_math.specs.Tests.{AllOf}
use Rattle.lhg_motion.specs.Segment.{along}
use Rattle.lhg_plant.specs.Plant.{PlainLocation, PlainSwitch, PlainPlant}
use Rattle.lhg_plant.specs.State.{PlainState, IsSafe, moved_to}
use Rattle.lhg_plant.specs.Legal.{IsPlayFrom}
use Rattle.lhg_plant.specs.Escape.{HasEscape}
use Rattle.lhg_plant.specs.Round.{InRound, RemovesNothing, IsLastRound}
use Rattle.lhg_plant.specs.Still.{still_rows, IsStill, HasNoSwitch}
use Rattle.lhg_plant.proofs.Options.{some_out}
use Rattle.lhg_plant.proofs.StillFlow.{still_end, along_same}

-- each place on the way from x to an end that is x is x
stands : (x y : PlainPoint) (p : Number) → y ≡ x → along x y p ≡ x
stands x y p e = ap (λ w. along x w p) e ∙ along_same x p

-- a play in a still location: each of its points is its start
still_play : (inv : PlainPiece) (n : ℕ) (x : PlainPoint) (moves : List PlainMove) → length x ≡ n → IsPlay inv (still_rows n) x moves
    → EachPoint (λ p. p ≡ x) x moves
still_play inv n x [] l h = (earlier_none (λ p. p ≡ x) x, refl)
still_play inv n x (m ∷ []) l h =
    let e = still_end inv n x m.time m.to l h.0 in
    (earlier_one (λ p. p ≡ x) x m (λ p i less. stands x m.to p e), e)
still_play inv n x (m ∷ k ∷ ms) l h =
    let e : m.to ≡ x = still_end inv n x m.time m.to l h.0 in
    let rest = still_play inv n m.to (k ∷ ms) (ap length e ∙ l) h.1 in
    (earlier_more (λ p. p ≡ x) x m k ms (λ p i. stands x m.to p e) (earlier_weaken (λ p. p ≡ m.to) (λ p. p ≡ x) (λ p f. f ∙ e) m.to (k ∷ ms) rest.0), rest.1 ∙ e)

-- what holds of all members holds of one that is there
all_get : {A : Type 0} (P Q R : A → Type 0) → ((x : A) → P x → Q x → R x) → (xs : List A) (i : ℕ) → AllOf P xs → IsSomeAnd (slice_get xs i) Q
    → IsSomeAnd (slice_get xs i) R
all_get P Q R f [] i all h = h
all_get P Q R f (x ∷ xs) zero all h = f x all.0 h
all_get P Q R f (x ∷ xs) (suc i) all h = all_get P Q R f xs i all.1 h

-- a play from a state of a still plant stays at its point
pub still_stays : (a : PlainPlant) → IsStill a → (s : PlainState) (moves : List PlainMove) → IsPlayFrom a s moves
    → EachPoint (λ p. p ≡ s.at) s.at moves
still_stays a still s moves h =
    some_out _ _ (λ (l : PlainLocation) k. k)
    (slice_get a.locs s.loc)
    (all_get (λ (l : PlainLocation). l.flow ≡ still_rows (length a.vars)) (λ l. IsPlay l.inv l.flow s.at moves) (λ l. EachPoint (λ p. p ≡ s.at) s.at moves)
    (λ l e k. still_play l.inv (length a.vars) s.at moves h.start.fits (subst (λ (rows : PlainPiece). IsPlay l.inv rows s.at moves) e k))
    a.locs s.loc still h.play)

-- an empty list has no switch
none_in : (ws : List PlainSwitch) (e : ℕ) (w : PlainSwitch) → ws ≡ [] → slice_get ws e ≡ Some w → ⊥
none_in ws e w empty there = let h : slice_get [] e ≡ Some w = subst (λ (v : List PlainSwitch). slice_get v e ≡ Some w) empty there in nothing e w h
  where
    nothing : (e : ℕ) (w : PlainSwitch) → None ≡ Some w → ⊥
    nothing e w h = cc

module _ (a : PlainPlant) (still : IsStill a) (none : HasNoSwitch a) where
  -- no state of a set has an escape from it, past any other
  pub still_closed : (S K : PlainState → Type 0) (s : PlainState) → S s → HasEscape a S K s → ⊥
  still_closed S K s h escape =
      let at_start : last_point s.at escape.0 ≡ s.at = (still_stays a still s escape.0 escape.1.play).1 in
      elim escape.1.ends [
        | inl out ↦ out.1 (subst (λ (p : PlainPoint). S (moved_to s p)) (sym at_start) h)
        | inr out ↦ none_in a.switches out.number out.legal.switch none out.legal.is_there
      ]

  -- each round is all safe states
  pub still_rounds : (i : ℕ) (s : PlainState) → InRound a i s ↔ IsSafe a s
  still_rounds zero s = (λ h. h, λ h. h)
  still_rounds (suc i) s =
      let before = still_rounds i s in
      (λ h. before.0 h.0, λ h. (before.1 h, still_closed (InRound a i) _ s (before.1 h)))

  -- each round from 1 on removes nothing
  still_settled : (i : ℕ) → RemovesNothing a (suc i)
  still_settled i s h = h.gone ((still_rounds (suc i) s).1 ((still_rounds h.round s).0 h.kept))

  -- round 1 is the last
  pub still_last : IsLastRound a 1
  still_last = record { counted = omega arith; settled = still_settled zero; first = λ j low high. absurd (omega arith) }
