-- Which points in the closure of some rows tell which of the rows their piece can need?
use Rattle.std.specs.Prelude.{◌≡◌, ◌⊎◌, ℕ, Bool, true, false, length, filter}
use Rattle.lhg_math.specs.Tests.{AllOf}
use Rattle.lhg_row.specs.Row.{PlainRow, PlainPoint, Holds, holds_at, relaxed, row_with}
use Rattle.lhg_row.specs.Piece.{PlainPiece, in_piece}

-- the row made strict: it holds where the row has room to its bound
abbrev pub strictly : PlainRow → PlainRow
strictly r = row_with r.coefs true r.bound

-- the row, made weak, holds at the point, and has room there where the test leaves it out
pub record IsTouchedBy (keeps : PlainRow → Bool) (c : PlainPoint) (r : PlainRow) : Type 0 where
  pub weak : Holds (relaxed r) c
  pub room : (keeps r ≡ true) ⊎ Holds (strictly r) c

-- the row has no room at some point of the closure of the rows at which all rows that the test leaves out have room
pub record IsTouched (n : ℕ) (rows : PlainPiece) (keeps : PlainRow → Bool) (r : PlainRow) : Type 0 where
  pub point : PlainPoint
  pub wide : length point ≡ n
  pub touches : AllOf (IsTouchedBy keeps point) rows
  pub tight : holds_at (strictly r) point ≡ false

-- the rows that pass the test have the points of all, and each of them is touched
pub record AreEnough (n : ℕ) (rows : PlainPiece) (keeps : PlainRow → Bool) : Type 0 where
  pub points : (x : PlainPoint) → length x ≡ n → in_piece (filter keeps rows) x ≡ true → in_piece rows x ≡ true
  pub touched : AllOf (λ r. keeps r ≡ true → IsTouched n rows keeps r) rows
