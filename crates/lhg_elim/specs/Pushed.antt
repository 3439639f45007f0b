-- What is a list of rows after combinations were put at its end?
use Rattle.std.specs.Prelude.{ℕ, ◌++◌, map}
use Rattle.lhg_num.specs.Marked.{Marked, valued}
use Rattle.lhg_row.specs.Piece.{PlainPiece}
use Rattle.lhg_row.specs.Column.{drop_column}

-- the old rows and then the new ones without the column of k, with the marks of the new ones
abbrev pub pushed : ℕ → PlainPiece → Marked PlainPiece → Marked PlainPiece
pushed k old new = valued (λ rows. old ++ map (drop_column k) rows) new
