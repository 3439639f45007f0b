-- How is the value of a row at a point formed, and what does it tell?
use Rattle.std.specs.Prelude.{Bool, true, false, not, List, [], ◌∷◌}
use Rattle.std.specs.declared.cmp.Ordering.{Ordering}
use Rattle.std.specs.declared.cmp.Ordering.TheVariants.{Less, Equal, Greater}
use Rattle.lhg_math.specs.Number.{Number, nought}
use Rattle.lhg_num.specs.Arithmetic.{Arithmetic}
use Rattle.lhg_num.specs.Marked.{Marked, done, and_then, valued, marked_add, marked_sub, marked_mul, marked_cmp}
use Rattle.lhg_row.specs.Row.{PlainRow, PlainPoint}

-- s + c * x
abbrev pub plus_product : Arithmetic → Number → Number → Number → Marked Number
plus_product a s c x = and_then (marked_mul a c x) (λ p. marked_add a s p)

-- s, and to it the products of the coefficients and the coordinates, from the first variable to the last
abbrev pub marked_value : Arithmetic → Number → List Number → PlainPoint → Marked Number
marked_value a s [] xs = done s
marked_value a s (c ∷ cs) [] = done s
marked_value a s (c ∷ cs) (x ∷ xs) = and_then (plus_product a s c x) (λ t. marked_value a t cs xs)

-- whether a row holds where its value has this order against its bound
abbrev pub fits_order : Bool → Ordering → Bool
fits_order strict Less = true
fits_order strict Equal = not strict
fits_order strict Greater = false

-- whether the row holds at the point
abbrev pub truth : Arithmetic → PlainRow → PlainPoint → Marked Bool
truth a r x = and_then (marked_value a nought r.coefs x) (λ v. valued (fits_order r.strict) (marked_cmp a v r.bound))

-- the row with this bound in place of its own
abbrev pub with_bound : PlainRow → Number → PlainRow
with_bound r b = record { coefs = r.coefs; strict = r.strict; bound = b }

-- the bound lessened by m times the value of the row at the point
abbrev pub shifted_bound : Arithmetic → PlainRow → PlainPoint → Number → Marked Number
shifted_bound a r by m = and_then (marked_value a nought r.coefs by) (λ v. and_then (marked_mul a m v) (λ w. marked_sub a r.bound w))

-- the row with its bound so lessened
abbrev pub shift : Arithmetic → PlainRow → PlainPoint → Number → Marked PlainRow
shift a r by m = valued (with_bound r) (shifted_bound a r by m)
