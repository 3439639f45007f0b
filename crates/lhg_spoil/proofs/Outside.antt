-- Whether a state lies outside a round is decidable, and it lies there exactly where it is not in the round.
use Rattle.std.proofs.Common.{◌≡◌, ◌⊎◌, inl, inr, ◌≤◌, ℕ, zero, suc, List, refl, arith}
use Rattle.lhg_row.specs.PieceLemmas.{some_decided}
use Rattle.lhg_plant.specs.Plant.{PlainPlant}
use Rattle.lhg_plant.specs.Proper.{IsProper}
use Rattle.lhg_plant.specs.State.{PlainState, IsState}
use Rattle.lhg_plant.specs.Rank.{HasRank, IsPast}
use Rattle.lhg_plant.specs.Round.{InRound}
use Rattle.lhg_plant.specs.Loss.{PlainLoss}
use Rattle.lhg_plant.proofs.Decided.{safe_decided, state_decided}
use Rattle.lhg_plant.proofs.Rounds.{round_safe, rounds_shrink, removed_once}
use Rattle.lhg_spoil.specs.Fibres.{past_at}
use Rattle.lhg_spoil.specs.Known.{AreKnown}
use Rattle.lhg_spoil.proofs.PastStates.{past-exact}

-- what has a rank is a state
pub rank_state : (a : PlainPlant) (i : ℕ) (s : PlainState) → HasRank a i s → IsState a s
rank_state a zero s h = h.0
rank_state a (suc i) s h = (round_safe a h.round s h.kept).state

-- a state has one rank
pub rank_once : (a : PlainPlant) (i j : ℕ) (s : PlainState) → HasRank a i s → HasRank a j s → i ≡ j
rank_once a zero zero s h k = refl
rank_once a zero (suc j) s h k = absurd (h.1 (round_safe a k.round s k.kept))
rank_once a (suc i) zero s h k = absurd (k.1 (round_safe a h.round s h.kept))
rank_once a (suc i) (suc j) s h k = removed_once a (suc i) (suc j) s h k

-- what lies outside a round is not in it
rank_gone : (a : PlainPlant) (j i : ℕ) (s : PlainState) → i ≤ j → HasRank a i s → ¬ InRound a j s
rank_gone a j zero s less h k = h.1 (round_safe a j s k)
rank_gone a j (suc i) s less h k = h.gone (rounds_shrink a (suc i) j s less k)

pub past_gone : (a : PlainPlant) (j : ℕ) (s : PlainState) → IsPast a j s → ¬ InRound a j s
past_gone a j s h = rank_gone a j h.rank s h.within h.ranked

-- a state that does not lie outside is in the round, and in each before it
pub not_past_inside : (a : PlainPlant) (j : ℕ) (s : PlainState) → IsState a s → ¬ IsPast a j s → (i : ℕ) → i ≤ j → InRound a i s
not_past_inside a j s state out zero less =
    elim (safe_decided a s) [ inl h ↦ h | inr f ↦ absurd (out (record { rank = 0; within = omega arith; ranked = (state, f) })) ]
not_past_inside a j s state out (suc i) less =
    let here = not_past_inside a j s state out i (omega arith) in
    (here, λ escape. out (record { rank = suc i; within = less; ranked = record { round = i; number = refl; kept = here; gone = λ next. next.1 escape } }))

module _ (a : PlainPlant) (losses : List PlainLoss) (k : ℕ) (known : AreKnown a losses k) (proper : IsProper a) (j : ℕ) (within : j ≤ k) where
  -- a state lies outside round j or not
  pub past_decided : (s : PlainState) → IsPast a j s ⊎ ¬ IsPast a j s
  past_decided s =
      elim (state_decided a s) [
        | inl e ↦
            elim (some_decided (past_at a losses j s.loc).value s.at) [
              | inl h ↦ inl ((past-exact a losses k known proper j within s.loc s.at e.fits).0 h)
              | inr f ↦ inr (λ q. f ((past-exact a losses k known proper j within s.loc s.at e.fits).1 q))
            ]
        | inr f ↦ inr (λ q. f (rank_state a q.rank s q.ranked))
      ]

  -- a state that is not in round j lies outside it
  pub gone_past : (s : PlainState) → IsState a s → ¬ InRound a j s → IsPast a j s
  gone_past s state gone = elim (past_decided s) [ inl h ↦ h | inr f ↦ absurd (gone (not_past_inside a j s state f j (omega arith))) ]
