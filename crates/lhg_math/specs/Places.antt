-- Which numbers are places from 0 to 1?
use Rattle.std.specs.Prelude.{◌≡◌, true, false}
use Rattle.lhg_math.specs.Number.{Number, lt, nought, unit}

-- a place from 0 to 1
pub record IsPlace (p : Number) : Type 0 where
  pub from : lt p nought ≡ false
  pub upto : lt unit p ≡ false

-- a place strictly between 0 and 1
pub record IsInner (p : Number) : Type 0 where
  pub above : lt nought p ≡ true
  pub below : lt p unit ≡ true
