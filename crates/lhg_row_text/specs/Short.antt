-- Which numbers can be read again: those whose parts are no larger than digits that are read may stand for?
use Rattle.std.specs.Prelude.{◌≤◌}
use Rattle.std.specs.Int.RustNames.{unsigned_abs}
use Rattle.lhg_math.specs.Number.{Number}
use Rattle.lhg_lex.specs.Literal.{limit}
use Rattle.lhg_math.specs.Tests.{AllOf}
use Rattle.lhg_row.specs.Piece.{PlainPiece}
use Rattle.lhg_row.specs.Row.{PlainRow}

-- the size of the numerator and the denominator are within the limit
pub record IsShort (x : Number) : Type 0 where
  pub top : unsigned_abs x.top ≤ limit
  pub bottom : x.bottom ≤ limit

-- so are those of a row's numbers
pub record IsShortRow (r : PlainRow) : Type 0 where
  pub coefs : AllOf IsShort r.coefs
  pub bound : IsShort r.bound

-- and those of each row
abbrev pub AllShort : PlainPiece → Type 0
AllShort rows = AllOf IsShortRow rows
