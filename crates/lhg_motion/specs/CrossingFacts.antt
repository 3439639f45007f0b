-- Which laws do crossings obey?
use Rattle.std.specs.Prelude.{◌≡◌, ◌↔◌, ℕ}
use Rattle.lhg_math.specs.Number.{Number}
use Rattle.lhg_num.specs.Arithmetic.{Arithmetic, IsLawful}
use Rattle.lhg_row.specs.Row.{PlainPoint}
use Rattle.lhg_row.specs.Piece.{PlainPiece}
use Rattle.lhg_motion.specs.Segment.{along}
use Rattle.lhg_motion.specs.Crossing.{HasCrossing, HasMiddle}
use Rattle.lhg_motion.specs.CrossFact.{CrossIsExact}

-- for every lawful type and every number of variables
pub record CrossingFacts : Type 0 where
  pub exact : (a : Arithmetic) (n : ℕ) → IsLawful a → CrossIsExact a n
  pub middle : (start through into flow : PlainPiece) (x : PlainPoint) → HasCrossing start through into flow x ↔ HasMiddle start through into flow x
  pub rest : (x : PlainPoint) (p : Number) → along x x p ≡ x
