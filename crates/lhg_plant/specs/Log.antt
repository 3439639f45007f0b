-- When is a log legal, which entry is its first illegal one, and which states does a run visit?
use Rattle.std.specs.Prelude.{ℕ, zero, suc, List, [], ◌∷◌}
use Rattle.lhg_math.specs.Number.{Number}
use Rattle.lhg_math.specs.Places.{IsPlace}
use Rattle.lhg_plant.specs.Plant.{PlainPlant}
use Rattle.lhg_plant.specs.State.{PlainState, States, moved_to}
use Rattle.lhg_plant.specs.Region.{InRegion}
use Rattle.lhg_plant.specs.Controller.{PlainController}
use Rattle.lhg_plant.specs.Choice.{Choice}
use Rattle.lhg_plant.specs.Run.{PlainEntry, PlainStep, started, flowed, switched, landed, env_switched, RunPlace, resting, state_along, IsLegalEntry, DoesEntry, IsRun}

-- each entry is legal at its turn, whatever the entries before it did
abbrev pub AllLegalFrom : Choice → PlainPlant → PlainController → RunPlace → List PlainEntry → Type 0
AllLegalFrom choice a c r [] = Unit {0}
AllLegalFrom choice a c r (entry ∷ rest) = IsLegalEntry a r entry × ((steps : List PlainStep) (next : RunPlace) → DoesEntry choice a c r entry steps next → AllLegalFrom choice a c next rest)

-- the start is in the region, and each entry is legal at its turn
pub record IsLegalLog (choice : Choice) (a : PlainPlant) (c : PlainController) (start : PlainState) (entries : List PlainEntry) : Type 0 where
  pub starts : InRegion a c.region start
  pub all_legal : AllLegalFrom choice a c (resting start) entries

-- entry k, counted from 0, is the first that is not legal at its turn
abbrev pub IsIllegalFrom : Choice → PlainPlant → PlainController → RunPlace → List PlainEntry → ℕ → Type 0
IsIllegalFrom choice a c r [] k = ⊥
IsIllegalFrom choice a c r (entry ∷ rest) zero = ¬ IsLegalEntry a r entry
IsIllegalFrom choice a c r (entry ∷ rest) (suc k) =
    IsLegalEntry a r entry × (steps : List PlainStep) × (next : RunPlace) × DoesEntry choice a c r entry steps next × IsIllegalFrom choice a c next rest k

-- the number of the first illegal entry: 0 where the start is not in the region, and else the entries count from 1
abbrev pub IsFirstIllegal : Choice → PlainPlant → PlainController → PlainState → List PlainEntry → ℕ → Type 0
IsFirstIllegal choice a c start entries zero = ¬ InRegion a c.region start
IsFirstIllegal choice a c start entries (suc k) = InRegion a c.region start × IsIllegalFrom choice a c (resting start) entries k

-- what holds of each state that the steps visit from s: of the start, of all points of the flows, and of all results
abbrev pub EachVisited : States → PlainState → List PlainStep → Type 0
EachVisited P s [] = Unit {0}
EachVisited P s (started z ∷ steps) = P z × EachVisited P z steps
EachVisited P s (flowed t y ∷ steps) = ((p : Number) → IsPlace p → P (state_along s y p)) × EachVisited P (moved_to s y) steps
EachVisited P s (switched e ∷ steps) = EachVisited P s steps
EachVisited P s (landed z ∷ steps) = P z × EachVisited P z steps
EachVisited P s (env_switched e z ∷ steps) = P z × EachVisited P z steps

-- the log has a run, and all states that it visits are in the region
pub record StaysInside (choice : Choice) (a : PlainPlant) (c : PlainController) (start : PlainState) (entries : List PlainEntry) : Type 0 where
  pub trace : List PlainStep
  pub last : RunPlace
  pub run : IsRun choice a c start entries trace last
  pub inside : EachVisited (InRegion a c.region) start trace
