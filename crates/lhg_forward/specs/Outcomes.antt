-- What does the iteration over the levels answer where it tells no region, and what does it keep from level to level?
use Rattle.std.specs.Prelude.{◌≡◌, ◌+◌, ◌<◌, ◌≤◌, ℕ, suc, true, false}
use Rattle.lhg_num.specs.declared.refusals.Halt.{Halt}
use Rattle.lhg_num.specs.declared.refusals.Halt.TheVariants as halt
use Rattle.lhg_union.specs.Regions.{plain_region}
use Rattle.lhg_plant.specs.declared.plants.Plant.{Plant}
use Rattle.lhg_plant.specs.Plant.{PlainPlant}
use Rattle.lhg_plant.specs.Region.{PlainRegion}
use Rattle.lhg_plant.specs.Views.{plain_plant, plain_state}
use Rattle.lhg_forward.specs.declared.stages.Stage.{Stage}
use Rattle.lhg_forward.specs.declared.stops.ForwardStop.{ForwardStop}
use Rattle.lhg_forward.specs.declared.stops.ForwardStop.TheVariants.{Wide, Rows, Pieces, Spent, Memory}
use Rattle.lhg_forward.specs.Growth.{ended, spent, stage, none_new, forward_within, forward_sets}
use Rattle.lhg_forward.specs.GrowthFacts.{HasNewest}
use Rattle.lhg_forward.specs.StageFacts.{IsStage, IsForward, IsSpent}
use Rattle.lhg_forward.specs.WorkLaws.{IsStopIn}
use Rattle.lhg_forward.specs.Views.{plain_stage, IsStageOf}

-- why there is no region: the work of the level that is named has the mark of the limit, or the budget is spent
abbrev pub IsForwardStop : PlainPlant → PlainRegion → ℕ → ForwardStop → Type 0
IsForwardStop a init budget (Wide i) = IsStopIn a init budget i (λ m. m.wide)
IsForwardStop a init budget (Rows i) = IsStopIn a init budget i (λ m. m.rows)
IsForwardStop a init budget (Pieces i) = IsStopIn a init budget i (λ m. m.pieces)
IsForwardStop a init budget (Spent s) = (forward_sets a init budget ≡ spent (plain_state s)) × IsSpent a init budget (plain_state s)
IsForwardStop a init budget Memory = Unit {0}

-- a halt in the work of level i
abbrev pub stop_of : Halt → ℕ → ForwardStop
stop_of halt.Wide i = Wide i
stop_of halt.Rows i = Rows i
stop_of halt.Pieces i = Pieces i
stop_of halt.Memory i = Memory

-- the stage after level i, each level up to which added a state; what is left of the budget gives the end
pub record IsAfter (p : Plant) (init : PlainRegion) (budget i : ℕ) (s : Stage) : Type 0 where
  pub same : plain_stage s ≡ (stage (plain_plant p) init i).value
  pub stage_is : IsStage (plain_plant p) init i (plain_stage s)
  pub rest : (left : ℕ) → left + i ≡ budget → forward_sets (plain_plant p) init budget ≡ forward_within left (plain_plant p) i (plain_stage s)
  pub lists : IsStageOf p s
  pub newest : 0 < i → HasNewest (plain_plant p) (plain_stage s)

-- after level i the iteration has ended, or this is its stage
pub record IsTurn (p : Plant) (init : PlainRegion) (budget i : ℕ) (s : Stage) : Type 0 where
  pub lists : IsStageOf p s
  pub end : none_new s.first ≡ true → forward_sets (plain_plant p) init budget ≡ ended i (plain_region s.region.pieces.items)
  pub forward : none_new s.first ≡ true → IsForward (plain_plant p) init budget i (plain_region s.region.pieces.items)
  pub goes_on : none_new s.first ≡ false → IsAfter p init budget i s
