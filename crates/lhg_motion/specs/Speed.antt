-- What does a legal flow ask when its speed is computed from its ends and its time?
use Rattle.std.specs.Prelude.{◌≡◌, true, List, length}
use Rattle.lhg_math.specs.Number.{Number, lt, nought, inverse}
use Rattle.lhg_row.specs.Row.{PlainPoint}
use Rattle.lhg_row.specs.Piece.{PlainPiece, InPiece}
use Rattle.lhg_motion.specs.Flow.{displacement, times}

-- (y - x) / t, coordinate by coordinate
abbrev pub speed_of : PlainPoint → Number → PlainPoint → List Number
speed_of x t y = times (inverse t) (displacement x y)

-- t > 0, both ends are in the invariant, and all flow rows hold at (y - x) / t
pub record IsFlowBySpeed (inv flow : PlainPiece) (x : PlainPoint) (t : Number) (y : PlainPoint) : Type 0 where
  pub takes_time : lt nought t ≡ true
  pub from_in : InPiece inv x
  pub to_in : InPiece inv y
  pub same_length : length x ≡ length y
  pub allowed : InPiece flow (speed_of x t y)
