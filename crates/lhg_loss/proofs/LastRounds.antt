-- Within the limits of lists of pieces no round is computed after the last one.
use Rattle.std.proofs.Common.{◌≡◌, ◌+◌, ◌<◌, ◌≤◌, false, ℕ, zero, suc, length, sym, inl, inr, subst, arith}
use Rattle.std.proofs.lemmas.Bool.{cases_lt}
use Rattle.lhg_plant.specs.Plant.{PlainPlant}
use Rattle.lhg_plant.specs.Proper.{IsProper}
use Rattle.lhg_plant.specs.Round.{IsLastRound, IsRemovedIn}
use Rattle.lhg_loss.specs.Records.{PlainRound}
use Rattle.lhg_loss.specs.Iterate.{PlainStage, stage, next_round, after_round, none_lost, spent_state, work}
use Rattle.lhg_loss.specs.RoundFacts.{IsExactRound}
use Rattle.lhg_loss.specs.StageFacts.{IsStage}
use Rattle.lhg_loss.specs.LimitFacts.{IsComputed}
use Rattle.lhg_loss.specs.SolveLaws.{LastLaw}
use Rattle.lhg_loss.proofs.Begins.{stage_start}
use Rattle.lhg_loss.proofs.Limits.{exact_round, stage_after}
use Rattle.lhg_loss.proofs.Parts.{exact_parts}
use Rattle.lhg_loss.proofs.Stages.{stage_step, sample_removed}

module _ (a : PlainPlant) (budget : ℕ) (proper : IsProper a) where
  -- the round after a stage, where its work has no mark of pieces
  abbrev round_after : ℕ → PlainRound
  round_after k = (next_round a (suc k) (stage a k).value).value

  -- a round that is computed before another one has a record
  some_lost : (k : ℕ) → IsComputed a (suc (suc k)) → none_lost (round_after k).losses ≡ false
  some_lost k c = subst (λ (w : PlainStage). none_lost w.last ≡ false) (stage_after a k) (c (suc k) (omega arith) (omega arith))

  exact_after : (k : ℕ) → IsStage a k (stage a k).value → (work a budget (suc k)).pieces ≡ false
      → IsExactRound a (stage a k).value.region (suc k) (length (stage a k).value.losses + 1) (round_after k)
  exact_after k h u = exact_round a budget k proper (exact_parts a proper) h u

  -- the stages before a round that is computed are the rounds of the game
  stage_is : (k : ℕ) → ((j : ℕ) → j ≤ k → (work a budget j).pieces ≡ false) → IsComputed a (suc k) → IsStage a k (stage a k).value
  stage_is zero u c = stage_start a proper
  stage_is (suc k) u c =
      let h = stage_is k (λ j l. u j (omega arith)) (λ j l m. c j l (omega arith)) in
      let next = stage_step a k (stage a k).value (round_after k) h (exact_after k h (u (suc k) (omega arith))) (some_lost k c) in
      subst (λ (w : PlainStage). IsStage a (suc k) w) (sym (stage_after a k)) next

  -- a round with a record removes a state
  removes : (k : ℕ) → ((j : ℕ) → j ≤ suc k → (work a budget j).pieces ≡ false) → IsComputed a (suc (suc k)) → IsRemovedIn a (suc k) (spent_state a (round_after k).losses).value
  removes k u c =
      let h = stage_is k (λ j l. u j (omega arith)) (λ j l m. c j l (omega arith)) in
      sample_removed a k (stage a k).value (round_after k) h (exact_after k h (u (suc k) (omega arith))) (some_lost k c)

  not_later : (r i : ℕ) → IsLastRound a r → ((j : ℕ) → j ≤ r → (work a budget j).pieces ≡ false) → IsComputed a i → r < i → ⊥
  not_later zero i h u c less = let p = h.counted in absurd (omega arith)
  not_later (suc k) i h u c less = h.settled _ (removes k u (λ j l m. c j l (omega arith)))

pub last_law : (a : PlainPlant) → LastLaw a
last_law a budget r i proper h u c = elim (cases_lt r i) [ inl l ↦ absurd (not_later a budget proper r i h u c l) | inr l ↦ l ]
