-- Which plants have a text?
use Rattle.lhg_math.specs.Tests.{AllOf, Every}
use Rattle.lhg_row.specs.Constant.{varies}
use Rattle.lhg_plant.specs.Plant.{PlainLocation, PlainPlant}
use Rattle.lhg_plant.specs.Word.{IsVariable}

-- each row of the location has a coefficient that is not 0
pub record HasVariables (l : PlainLocation) : Type 0 where
  pub inv : Every varies l.inv
  pub flow : Every varies l.flow
  pub safe : AllOf (λ rows. Every varies rows) l.safe

-- no keyword for rows names a variable, and each row of the plant has a coefficient that is not 0
pub record IsPrintable (p : PlainPlant) : Type 0 where
  pub vars : AllOf IsVariable p.vars
  pub locs : AllOf HasVariables p.locs
  pub jumps : AllOf (λ s. Every varies s.jump) p.switches
