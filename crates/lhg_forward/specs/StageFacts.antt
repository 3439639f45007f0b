-- What does a stage of the iteration say of the levels, and what does the end of the iteration within a budget?
use Rattle.std.specs.Prelude.{◌≡◌, ◌↔◌, ◌<◌, ◌≤◌, ℕ}
use Rattle.lhg_plant.specs.Plant.{PlainPlant}
use Rattle.lhg_plant.specs.State.{PlainState}
use Rattle.lhg_plant.specs.Region.{PlainRegion, InRegion}
use Rattle.lhg_forward.specs.Level.{AtLevel, IsReachable, IsAddedIn, AddsSome, IsLastLevel}
use Rattle.lhg_forward.specs.Growth.{PlainStage, PlainForward, ended, spent, spent_state}
use Rattle.lhg_forward.specs.GrowthFacts.{IsRegion, IsClosedStage}

-- after level i, where each level so far added a state: the region is the level, no legal action leads out of it from an older piece, and the
-- sample is a state that the level added
pub record IsStage (a : PlainPlant) (init : PlainRegion) (i : ℕ) (s : PlainStage) : Type 0 where
  pub closed_is : IsClosedStage a s
  pub exact : (z : PlainState) → InRegion a s.region z ↔ AtLevel a (InRegion a init) i z
  pub adds : (j : ℕ) → 0 < j → j ≤ i → AddsSome a (InRegion a init) j
  pub sampled : 0 < i → IsAddedIn a (InRegion a init) i (spent_state a s).value

-- the number is that of the first level that adds nothing, it is at most the budget, and the region is the forward reachable states
pub record IsForward (a : PlainPlant) (init : PlainRegion) (budget rounds : ℕ) (region : PlainRegion) : Type 0 where
  pub region_is : IsRegion a region
  pub exact : (z : PlainState) → InRegion a region z ↔ IsReachable a (InRegion a init) z
  pub last : IsLastLevel a (InRegion a init) rounds
  pub within : rounds ≤ budget

-- each level up to the budget adds a state, and the last of them this one
pub record IsSpent (a : PlainPlant) (init : PlainRegion) (budget : ℕ) (z : PlainState) : Type 0 where
  pub added : IsAddedIn a (InRegion a init) budget z
  pub adds : (j : ℕ) → 0 < j → j ≤ budget → AddsSome a (InRegion a init) j

-- which of the two the end says
abbrev pub IsEnd : PlainPlant → PlainRegion → ℕ → PlainForward → Type 0
IsEnd a init budget (ended rounds region) = IsForward a init budget rounds region
IsEnd a init budget (spent z) = IsSpent a init budget z
