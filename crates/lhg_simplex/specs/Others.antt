-- What is asked of a row of a list, and which rows hold wherever a list does?
use Rattle.std.specs.Prelude.{◌≡◌, ℕ, [], ◌∷◌, ◌++◌, length, remove}
use Rattle.lhg_math.specs.Tests.{AllOf}
use Rattle.lhg_row.specs.Row.{PlainRow, PlainPoint, Holds}
use Rattle.lhg_row.specs.Piece.{PlainPiece, InPiece}
use Rattle.lhg_row.specs.Moves.{negated}
use Rattle.lhg_row.specs.Eliminate.{row_at}

-- the other rows, and the opposite of row i: they have no point exactly where the others entail row i
abbrev pub others : PlainPiece → ℕ → PlainPiece
others rows i = remove rows i ++ negated (row_at rows i) ∷ []

-- the row is over n variables, and holds wherever the rows do
pub record IsFrom (n : ℕ) (rows : PlainPiece) (r : PlainRow) : Type 0 where
  pub wide : length r.coefs ≡ n
  pub holds : (x : PlainPoint) → InPiece rows x → Holds r x

-- the same of each row of a list
abbrev pub AreFrom : ℕ → PlainPiece → PlainPiece → Type 0
AreFrom n rows few = AllOf (IsFrom n rows) few
