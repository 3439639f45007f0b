-- How does a loop over the rounds compute the solution, and which marks of its steps are marks of the work of a round?
use Rattle.std.specs.Prelude.{◌≡◌, ◌≤◌, ℕ, suc, Bool, true, false, ◌++◌}
use Rattle.lhg_num.specs.Marked.{Marked}
use Rattle.lhg_num.specs.MarkedLaws.{IsPart}
use Rattle.lhg_plant.specs.Plant.{PlainPlant}
use Rattle.lhg_plant.specs.SafeRegion.{safe_region}
use Rattle.lhg_plant.specs.BackCalculus.{guards}
use Rattle.lhg_loss.specs.Iterate.{PlainStage, solved, spent, stage, next_round, after_round, counted_stage, none_lost, spent_state, solution_within, solution, work}
use Rattle.lhg_loss.specs.LimitFacts.{IsComputed}

-- a limit may be answered for round i only where the round is computed for the budget and its work has the mark
pub record IsStopIn (a : PlainPlant) (budget i : ℕ) (mark : Marked (Unit {0}) → Bool) : Type 0 where
  pub within : i ≤ budget
  pub computed : IsComputed a i
  pub marked : mark (work a budget i) ≡ true

-- the stages and the solution, step by step
pub record StepLaws (a : PlainPlant) : Type 0 where
  pub first : (budget : ℕ) → solution a budget ≡ solution_within budget a 0 (stage a 0).value
  pub next : (i : ℕ) → (stage a (suc i)).value ≡ after_round (stage a i).value (next_round a (suc i) (stage a i).value).value
  pub go_on : (left i : ℕ) (s : PlainStage) → none_lost (next_round a (suc i) s).value.losses ≡ false
      → solution_within (suc left) a i s ≡ solution_within left a (suc i) (after_round s (next_round a (suc i) s).value)
  pub settled : (left i : ℕ) (s : PlainStage) → none_lost (next_round a (suc i) s).value.losses ≡ true
      → solution_within (suc left) a i s ≡ solved (suc i) (next_round a (suc i) s).value.next (guards a (next_round a (suc i) s).value.next).value (s.losses ++ (next_round a (suc i) s).value.losses)
  pub used_up : (i : ℕ) (s : PlainStage) → solution_within 0 a i s ≡ spent (spent_state a s.last).value
  pub computed : (i : ℕ) → IsComputed a i → none_lost (stage a i).value.last ≡ false → IsComputed a (suc i)
  pub computed_first : IsComputed a 0 × IsComputed a 1

-- the marks of the steps of a round are among those of its work
pub record WorkLaws (a : PlainPlant) (budget i : ℕ) : Type 0 where
  pub safe : IsPart (work a budget 0) (safe_region a)
  pub round : IsPart (work a budget (suc i)) (next_round a (suc i) (stage a i).value)
  pub totals : IsPart (work a budget (suc i)) (counted_stage (after_round (stage a i).value (next_round a (suc i) (stage a i).value).value))
  pub kept : none_lost (stage a (suc i)).value.last ≡ true → IsPart (work a budget (suc i)) (guards a (stage a (suc i)).value.region)
  pub lost : suc i ≡ budget → none_lost (stage a (suc i)).value.last ≡ false → IsPart (work a budget (suc i)) (spent_state a (stage a (suc i)).value.last)
