-- Which rows of the last elimination are chosen?
use Rattle.std.specs.Prelude.{◌≡◌, ℕ, ◌+◌, Bool, true, false, length, take, filter, None}
use Rattle.lhg_math.specs.Tests.{AllOf}
use Rattle.lhg_num.specs.Arithmetic.{Arithmetic}
use Rattle.lhg_row.specs.Row.{PlainRow, PlainPoint, holds_at}
use Rattle.lhg_row.specs.Piece.{PlainPiece, in_piece}
use Rattle.lhg_row.specs.HasValue.{HasPoint, HasValue}
use Rattle.lhg_row.specs.Trim.{trim}
use Rattle.lhg_row.specs.Eliminate.{without}
use Rattle.lhg_prune.specs.Directions.{is_wanted}
use Rattle.lhg_prune.specs.Seat.{IsSeat}
use Rattle.lhg_prune.specs.Touch.{strictly}

-- the row has no room at the first coordinates of some point that tells which rows are wanted
pub record IsSeated (a : Arithmetic) (k : ℕ) (rows : PlainPiece) (keeps : PlainRow → Bool) (r : PlainRow) : Type 0 where
  pub point : PlainPoint
  pub seat : IsSeat a k rows keeps point
  pub tight : holds_at (strictly r) (take k point) ≡ false

-- chosen is the trim of what is made of the rows and is wanted, and each row of it is seated
pub record IsSeatedChoice (a : Arithmetic) (keep : ℕ) (before chosen : PlainPiece) : Type 0 where
  pub wanted : PlainPiece
  pub is : chosen ≡ (trim a (filter (is_wanted a wanted) (without a keep before None).value)).value
  pub seated : AllOf (IsSeated a keep before (is_wanted a wanted)) chosen

-- the same of rows with a point, and it has no more points than all that is made
pub record IsChosen (a : Arithmetic) (keep : ℕ) (before chosen : PlainPiece) : Type 0 where
  pub some : HasPoint (keep + 1) before
  pub choice : IsSeatedChoice a keep before chosen
  pub points : (x : PlainPoint) → length x ≡ keep → in_piece chosen x ≡ true → HasValue keep before x
