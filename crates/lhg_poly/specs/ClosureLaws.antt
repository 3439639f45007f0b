-- Which points has the closure of a piece?
use Rattle.std.specs.Prelude.{◌≡◌, ◌↔◌, length}
use Rattle.lhg_math.specs.Number.{Number}
use Rattle.lhg_math.specs.Places.{IsInner}
use Rattle.lhg_row.specs.Row.{PlainPoint}
use Rattle.lhg_row.specs.Piece.{PlainPiece, InPiece, InClosure}
use Rattle.lhg_motion.specs.Segment.{along}

-- the relaxed rows of a piece with a point x hold at y exactly where the piece holds at each point strictly between x and y
abbrev pub RelaxedClosureLaw : Type 0
RelaxedClosureLaw = (p : PlainPiece) (x y : PlainPoint) → length x ≡ length y → InPiece p x → InClosure p y ↔ ((u : Number) → IsInner u → InPiece p (along x y u))

-- where the relaxed rows of a piece hold at two points, and one point strictly between them is in the piece, all of these are
abbrev pub BetweenLaw : Type 0
BetweenLaw = (p : PlainPiece) (x y : PlainPoint) (u v : Number) → length x ≡ length y → InClosure p x → InClosure p y → IsInner u → InPiece p (along x y u) → IsInner v
    → InPiece p (along x y v)
