-- How does a loop over the levels compute the end, and which marks of its steps are marks of the work of a level?
use Rattle.std.specs.Prelude.{◌≡◌, ◌<◌, ◌≤◌, ℕ, suc, Bool, true, false}
use Rattle.lhg_num.specs.Marked.{Marked}
use Rattle.lhg_num.specs.MarkedLaws.{IsPart}
use Rattle.lhg_plant.specs.Plant.{PlainPlant}
use Rattle.lhg_plant.specs.Region.{PlainRegion, InRegion}
use Rattle.lhg_forward.specs.Level.{AddsSome}
use Rattle.lhg_forward.specs.Growth.{PlainStage, ended, spent, staged, first_stage, stage, none_new, spent_state, forward_within, forward_sets, work}

-- a limit may be answered for level i only where it is from 1 to the budget, each level before it adds a state, and its work has the mark
pub record IsStopIn (a : PlainPlant) (init : PlainRegion) (budget i : ℕ) (mark : Marked (Unit {0}) → Bool) : Type 0 where
  pub counted : 0 < i
  pub within : i ≤ budget
  pub adds : (j : ℕ) → 0 < j → j < i → AddsSome a (InRegion a init) j
  pub marked : mark (work a init budget i) ≡ true

-- the stages and the end, step by step
pub record StepLaws (a : PlainPlant) (init : PlainRegion) : Type 0 where
  pub first : (budget : ℕ) → forward_sets a init budget ≡ forward_within budget a 0 (stage a init 0).value
  pub starts : (stage a init 0).value ≡ first_stage init
  pub next : (i : ℕ) → (stage a init (suc i)).value ≡ (staged a (stage a init i).value).value
  pub go_on : (left i : ℕ) (s : PlainStage) → none_new (staged a s).value.first ≡ false → forward_within (suc left) a i s ≡ forward_within left a (suc i) (staged a s).value
  pub ended : (left i : ℕ) (s : PlainStage) → none_new (staged a s).value.first ≡ true → forward_within (suc left) a i s ≡ ended (suc i) (staged a s).value.region
  pub used_up : (i : ℕ) (s : PlainStage) → forward_within 0 a i s ≡ spent (spent_state a s).value

-- the marks of a level, and of the sample of the last one
pub record WorkLaws (a : PlainPlant) (init : PlainRegion) (budget i : ℕ) : Type 0 where
  pub level : IsPart (work a init budget (suc i)) (staged a (stage a init i).value)
  pub last : suc i ≡ budget → IsPart (work a init budget (suc i)) (spent_state a (stage a init (suc i)).value)
