-- What is a controller, and when is it valid?
use Rattle.std.specs.Prelude.{ℕ}
use Rattle.lhg_plant.specs.Plant.{PlainPlant}
use Rattle.lhg_plant.specs.State.{PlainState, IsSafe}
use Rattle.lhg_plant.specs.OutBack.{BackBy}
use Rattle.lhg_plant.specs.Escape.{HasEscape}
use Rattle.lhg_plant.specs.Region.{PlainRegion, PlainGuards, InRegion, InGuard, InSomeGuard}

-- the region that it keeps the plant in, and for each switch the states at which it may take it
pub record PlainController : Type 0 where
  pub region : PlainRegion
  pub guards : PlainGuards

-- every state of the region is safe; every state of a guard is in the region, and stays there by the switch: by one of side `ctl`
-- it has a legal result, and all its legal results are in the region, by one of side `pick` it has a legal result in the region; no
-- state of the region has an escape from it past the union of the guards
pub record IsValid (a : PlainPlant) (c : PlainController) : Type 0 where
  pub safe : (s : PlainState) → InRegion a c.region s → IsSafe a s
  pub guarded : (e : ℕ) (s : PlainState) → InGuard a c.guards e s → InRegion a c.region s × BackBy a (InRegion a c.region) e s
  pub closed : (s : PlainState) → InRegion a c.region s → ¬ HasEscape a (InRegion a c.region) (InSomeGuard a c.guards) s
