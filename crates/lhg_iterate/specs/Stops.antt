-- Why is there no further stage, and why is there no sample of a state that the last round of a budget removes?
use Rattle.std.specs.Prelude.{◌≡◌, ◌≤◌, ℕ, Bool, true, false}
use Rattle.lhg_num.specs.Marked.{Marked, valued}
use Rattle.lhg_plant.specs.Plant.{PlainPlant}
use Rattle.lhg_plant.specs.Views.{plain_state}
use Rattle.lhg_loss.specs.Iterate.{stage, none_lost, nothing, spent, spent_state, solution}
use Rattle.lhg_loss.specs.LimitFacts.{IsComputed}
use Rattle.lhg_loss.specs.StageFacts.{IsSpent}
use Rattle.lhg_iterate.specs.declared.stops.Stop.{Stop}
use Rattle.lhg_iterate.specs.declared.stops.Stop.TheVariants.{Wide, Rows, Pieces, Spent, Memory}

-- the number is that of round i, which is computed for the budget, and what is formed for its stage has the mark
pub record IsStageStopIn (a : PlainPlant) (budget i number : ℕ) (mark : Marked (Unit {0}) → Bool) : Type 0 where
  pub number_is : number ≡ i
  pub within : i ≤ budget
  pub computed : IsComputed a i
  pub marked : mark (valued nothing (stage a i)) ≡ true

-- why there is no stage of round i, which is named: what is formed for it has the mark of the limit
abbrev pub IsStageStop : PlainPlant → ℕ → ℕ → Stop → Type 0
IsStageStop a budget i (Wide k) = IsStageStopIn a budget i k (λ m. m.wide)
IsStageStop a budget i (Rows k) = IsStageStopIn a budget i k (λ m. m.rows)
IsStageStop a budget i (Pieces k) = IsStageStopIn a budget i k (λ m. m.pieces)
IsStageStop a budget i (Spent s) = ⊥
IsStageStop a budget i Memory = Unit {0}

-- the round is the last one of the budget, it is computed and has a record, and the sample of its first one has the mark
pub record IsSampleStopIn (a : PlainPlant) (budget i : ℕ) (mark : Marked (Unit {0}) → Bool) : Type 0 where
  pub last : i ≡ budget
  pub computed : IsComputed a i
  pub lost : none_lost (stage a i).value.last ≡ false
  pub marked : mark (valued nothing (spent_state a (stage a i).value.last)) ≡ true

-- a budget is spent, which the state shows; or what is formed for its sample has the mark of the limit
abbrev pub IsSpentStop : PlainPlant → ℕ → Stop → Type 0
IsSpentStop a budget (Wide i) = IsSampleStopIn a budget i (λ m. m.wide)
IsSpentStop a budget (Rows i) = IsSampleStopIn a budget i (λ m. m.rows)
IsSpentStop a budget (Pieces i) = ⊥
IsSpentStop a budget (Spent s) = (solution a budget ≡ spent (plain_state s)) × IsSpent a budget (plain_state s)
IsSpentStop a budget Memory = Unit {0}
