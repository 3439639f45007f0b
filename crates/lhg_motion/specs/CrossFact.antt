-- What does a crossing of three pieces say of points?
use Rattle.std.specs.Prelude.{◌≡◌, ◌↔◌, ℕ, length, Option, Some, None}
use Rattle.lhg_num.specs.Arithmetic.{Arithmetic}
use Rattle.lhg_row.specs.Row.{PlainPoint}
use Rattle.lhg_row.specs.Piece.{PlainPiece, InPiece}
use Rattle.lhg_row.specs.Width.{AllWide}
use Rattle.lhg_row.specs.PieceFacts.{IsPoly}
use Rattle.lhg_motion.specs.Crossing.{HasCrossing}
use Rattle.lhg_motion.specs.CrossCalculus.{cross}

-- a piece with the points that have a crossing
pub record IsCrossPiece (a : Arithmetic) (n : ℕ) (start through into flow piece : PlainPiece) : Type 0 where
  pub points : (x : PlainPoint) → length x ≡ n → InPiece piece x ↔ HasCrossing start through into flow x
  pub poly : IsPoly a n piece

-- none says that no point has a crossing, and a piece that it has the points that have one
abbrev pub IsCross : Arithmetic → ℕ → PlainPiece → PlainPiece → PlainPiece → PlainPiece → Option PlainPiece → Type 0
IsCross a n start through into flow None = (x : PlainPoint) → length x ≡ n → ¬ HasCrossing start through into flow x
IsCross a n start through into flow (Some piece) = IsCrossPiece a n start through into flow piece

-- the calculus is exact on crossings over n variables
abbrev pub CrossIsExact : Arithmetic → ℕ → Type 0
CrossIsExact a n = (start through into flow : PlainPiece) → AllWide n start → AllWide n through → AllWide n into → AllWide n flow
    → IsCross a n start through into flow (cross a n start through into flow).value
