-- From which states of a set may the plant leave it at once, and which controller switches there alone?
use Rattle.std.specs.Prelude.{◌≡◌, ◌↔◌, ℕ, true}
use Rattle.lhg_math.specs.Number.{Number, lt, nought}
use Rattle.lhg_math.specs.Places.{IsPlace}
use Rattle.lhg_row.specs.Row.{PlainPoint}
use Rattle.lhg_motion.specs.Segment.{along}
use Rattle.lhg_plant.specs.Plant.{PlainPlant}
use Rattle.lhg_plant.specs.State.{PlainState, States, moved_to}
use Rattle.lhg_plant.specs.Legal.{LegalFlow}
use Rattle.lhg_plant.specs.Region.{InRegion, InGuard}
use Rattle.lhg_plant.specs.Controller.{PlainController}

-- the states of the set from which some legal flow leads so that no point at a place above 0 is in the set
pub record InRim (a : PlainPlant) (S : States) (s : PlainState) : Type 0 where
  pub kept : S s
  pub time : Number
  pub to : PlainPoint
  pub legal : LegalFlow a s time to
  pub gone : (p : Number) → IsPlace p → lt nought p ≡ true → ¬ S (moved_to s (along s.at to p))

-- the candidate of a controller has its region, and for each switch the states of its guard that are in the rim of the region
pub record IsCandidate (a : PlainPlant) (c candidate : PlainController) : Type 0 where
  pub region : candidate.region ≡ c.region
  pub guards : (e : ℕ) (s : PlainState) → InGuard a candidate.guards e s ↔ (InGuard a c.guards e s × InRim a (InRegion a c.region) s)
