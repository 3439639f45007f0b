-- What is a row of another number type with the points of a given row?
use Rattle.std.specs.Prelude.{◌≡◌, true}
use Rattle.lhg_math.specs.Tests.{all_of}
use Rattle.lhg_num.specs.Arithmetic.{Arithmetic}
use Rattle.lhg_num.specs.FracCanon.{canon_frac}
use Rattle.lhg_row.specs.Row.{PlainRow}
use Rattle.lhg_row.specs.Piece.{PlainPiece}
use Rattle.lhg_row.specs.Trim.{entries_of, row_of}
use Rattle.lhg_elim.specs.Alike.{AllBeside}

-- the entries of s, as fractions scale them, are numbers that the type holds, and r is what the type makes of them
pub record IsTurned (a : Arithmetic) (s r : PlainRow) : Type 0 where
  pub held : all_of a.holds (canon_frac (entries_of s)) ≡ true
  pub is : r ≡ row_of s.strict (a.canon_of (canon_frac (entries_of s)))

-- the same of the rows of two lists one by one
abbrev pub AllTurned : Arithmetic → PlainPiece → PlainPiece → Type 0
AllTurned a ss rs = AllBeside (IsTurned a) ss rs
