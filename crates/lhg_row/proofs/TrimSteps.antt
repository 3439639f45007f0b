-- Steps of trim: rows that stand alone, and its parts one after another.
use Rattle.std.proofs.Common.{◌≡◌, ◌<◌, length, true, refl, ap, ◌∙◌}
use Rattle.std.specs.Ordering.{ordering_reverse}
use Rattle.lhg_math.specs.Number.{Number, lt, nought, compare, sign_of}
use Rattle.lhg_math.specs.NumberOrder.{lt_asym}
use Rattle.lhg_math.specs.Tests.{by_bool}
use Rattle.std.specs.Prelude.{nat_lt}
use Rattle.std.proofs.lemmas.Bool.{lt-ltb, or_left}
use Rattle.lhg_num.specs.Arithmetic.{Arithmetic}
use Rattle.lhg_num.specs.Marked.{and_then, each, IsRest}
use Rattle.lhg_num.specs.MarkedLaws.{IsPart, and_then-rest, and_then-part, rest_part, rest_rest}
use Rattle.lhg_row.specs.Piece.{PlainPiece}
use Rattle.lhg_row.specs.Row.{PlainRow}
use Rattle.lhg_row.specs.Constant.{stands_alone}
use Rattle.lhg_row.specs.Values.{fits_order}
use Rattle.lhg_row.specs.ValueLaws.{fits_order-compare}
use Rattle.lhg_row.specs.Trim.{row_limit, counted, canon, settled, trim}

-- 0 against a bound is the bound against 0, turned
order_turned : (b : Number) → ordering_reverse (sign_of b) ≡ compare nought b
order_turned b =
    by_bool (lt b nought)
    (λ e. rw (e, lt_asym b nought e) refl)
    (λ e. by_bool (lt nought b) (λ f. rw (e, f) refl) (λ f. rw (e, f) refl))

-- a row without a variable holds where 0 fits its bound
pub fits-alone : (r : PlainRow) → fits_order r.strict (ordering_reverse (sign_of r.bound)) ≡ stands_alone r
fits-alone r = ap (fits_order r.strict) (order_turned r.bound) ∙ fits_order-compare r.strict nought r.bound

-- ---- the parts of trim
module _ (a : Arithmetic) (rows : PlainPiece) where
  -- a list that is too long sets the mark
  pub trim-long : row_limit < length rows → (trim a rows).rows ≡ true
  unfolding trim
  trim-long h = or_left (nat_lt row_limit (length rows)) _ (lt-ltb row_limit (length rows) h)

  -- the marks of the scaling are among those of trim
  pub trim-canons_part : IsPart (trim a rows) (each (canon a) rows)
  unfolding trim
  trim-canons_part =
      rest_part (trim a rows) (and_then (each (canon a) rows) (settled a)) (each (canon a) rows) (and_then-rest (counted rows) (λ rs. and_then (each (canon a) rs) (settled a))) (and_then-part (each (canon a) rows) (settled a))

  -- after the scaling the settling is left
  pub trim-settled_rest : IsRest (trim a rows) (settled a (each (canon a) rows).value)
  unfolding trim
  trim-settled_rest =
      rest_rest (trim a rows) (and_then (each (canon a) rows) (settled a)) (settled a (each (canon a) rows).value) (and_then-rest (counted rows) (λ rs. and_then (each (canon a) rs) (settled a))) (and_then-rest (each (canon a) rows) (settled a))
