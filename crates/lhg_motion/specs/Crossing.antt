-- Which points have one straight flow from one piece, through another, into a third?
use Rattle.std.specs.Prelude.{[]}
use Rattle.lhg_math.specs.Number.{Number, half}
use Rattle.lhg_math.specs.Places.{IsInner}
use Rattle.lhg_row.specs.Row.{PlainPoint}
use Rattle.lhg_row.specs.Piece.{PlainPiece, InPiece, InClosure}
use Rattle.lhg_motion.specs.Segment.{along}
use Rattle.lhg_motion.specs.Flow.{IsFlow}

-- each point strictly between x and y is in the piece; where x is y this is x itself
abbrev pub GoesThrough : PlainPiece → PlainPoint → PlainPoint → Type 0
GoesThrough piece x y = (p : Number) → IsInner p → InPiece piece (along x y p)

-- one straight flow from x in one piece, through another, into a third
pub record HasCrossing (from through into flow : PlainPiece) (x : PlainPoint) : Type 0 where
  pub from_in : InPiece from x
  pub time : Number
  pub to : PlainPoint
  pub into_in : InPiece into to
  pub legal : IsFlow [] flow x time to
  pub passes : GoesThrough through x to

-- a crossing by its ends and its middle: what rows can say
pub record HasMiddle (from through into flow : PlainPiece) (x : PlainPoint) : Type 0 where
  pub from_in : InPiece from x
  pub time : Number
  pub to : PlainPoint
  pub into_in : InPiece into to
  pub legal : IsFlow [] flow x time to
  pub start_edge : InClosure through x
  pub end_edge : InClosure through to
  pub middle : InPiece through (along x to half)
