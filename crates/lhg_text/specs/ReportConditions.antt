-- What does a report ask of its records?
use Rattle.std.specs.Prelude.{◌<◌, length}
use Rattle.lhg_plant.specs.Loss.{PlainCause, by_env, by_leave, by_flow, PlainLoss}
use Rattle.lhg_plant.specs.Plant.{PlainPlant}

-- the switch of the cause is there
abbrev pub IsPlacedCause : PlainPlant → PlainCause → Type 0
IsPlacedCause a (by_env e into) = e < length a.switches
IsPlacedCause a (by_leave through into) = Unit {0}
IsPlacedCause a (by_flow m through) = Unit {0}

-- the location of a record and the switch of its cause are there
pub record IsPlacedLoss (a : PlainPlant) (loss : PlainLoss) : Type 0 where
  pub loc : loss.loc < length a.locs
  pub cause : IsPlacedCause a loss.cause
