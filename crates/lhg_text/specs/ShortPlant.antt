-- Which plants can be read again: those whose numbers are within the limit on what is read?
use Rattle.lhg_math.specs.Tests.{AllOf}
use Rattle.lhg_plant.specs.Plant.{PlainLocation, PlainPlant}
use Rattle.lhg_row_text.specs.Short.{AllShort}

-- the numbers of a location's rows are within the limit
pub record IsShortLocation (l : PlainLocation) : Type 0 where
  pub inv : AllShort l.inv
  pub flow : AllShort l.flow
  pub safe : AllOf AllShort l.safe

-- and those of a plant's
pub record IsShortPlant (a : PlainPlant) : Type 0 where
  pub locs : AllOf IsShortLocation a.locs
  pub switches : AllOf (λ s. AllShort s.jump) a.switches
