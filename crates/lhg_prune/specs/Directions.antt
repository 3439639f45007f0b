-- Which tests of rows see their directions alone?
use Rattle.std.specs.Prelude.{◌≡◌, Bool, true, ◌||◌}
use Rattle.lhg_math.specs.Number.{Number, lt, nought}
use Rattle.lhg_math.specs.Tests.{any_of}
use Rattle.lhg_num.specs.Arithmetic.{Arithmetic}
use Rattle.lhg_row.specs.Row.{PlainRow}
use Rattle.lhg_row.specs.Piece.{PlainPiece}
use Rattle.lhg_row.specs.Constant.{is_constant, varies}
use Rattle.lhg_row.specs.ValueLaws.{scaled_row}
use Rattle.lhg_row.specs.Trim.{same_direction}

-- rows of one direction pass the test together, as do rows of the same coefficients and a row and its positive multiples
pub record IsByDirection (a : Arithmetic) (test : PlainRow → Bool) : Type 0 where
  pub coefs : (r s : PlainRow) → r.coefs ≡ s.coefs → test r ≡ test s
  pub multiple : (k : Number) (r : PlainRow) → lt nought k ≡ true → test (scaled_row k r) ≡ test r
  pub direction : (r s : PlainRow) → varies r ≡ true → varies s ≡ true → (same_direction a r s).value ≡ true → test r ≡ test s

-- the row is constant, or has the direction of some row of the list
abbrev pub is_wanted : Arithmetic → PlainPiece → PlainRow → Bool
is_wanted a wanted r = is_constant r || any_of (λ w. (same_direction a r w).value) wanted
