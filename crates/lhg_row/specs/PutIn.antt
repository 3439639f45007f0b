-- What is a row over some variables and then further ones, once the first ones have values?
use Rattle.std.specs.Prelude.{drop, length}
use Rattle.lhg_math.specs.Number.{Number, nought}
use Rattle.lhg_num.specs.Arithmetic.{Arithmetic}
use Rattle.lhg_num.specs.Marked.{Marked, and_then, valued, each, marked_sub}
use Rattle.lhg_row.specs.Row.{PlainRow, PlainPoint, row_with}
use Rattle.lhg_row.specs.Piece.{PlainPiece}
use Rattle.lhg_row.specs.Values.{marked_value}

-- the bound lessened by the value of the row's first terms at the point
abbrev pub lessened_bound : Arithmetic → PlainPoint → PlainRow → Marked Number
lessened_bound a x r = and_then (marked_value a nought r.coefs x) (λ v. marked_sub a r.bound v)

-- the row with the point put in: its further terms, and its bound so lessened
abbrev pub put_in : Arithmetic → PlainPoint → PlainRow → Marked PlainRow
put_in a x r = valued (row_with (drop (length x) r.coefs) r.strict) (lessened_bound a x r)

-- each row of a list with the point put in
abbrev pub put_in_each : Arithmetic → PlainPoint → PlainPiece → Marked PlainPiece
put_in_each a x rows = each (put_in a x) rows
