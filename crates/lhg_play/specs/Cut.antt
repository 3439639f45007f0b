-- At which places of a segment does a run look, in which order, and which numbers are formed to find them and the points there?
use Rattle.std.specs.Prelude.{Bool, if◌then◌else◌, List, [], ◌∷◌, Option, Some, None}
use Rattle.std.specs.declared.cmp.Ordering.{Ordering}
use Rattle.std.specs.declared.cmp.Ordering.TheVariants.{Less, Equal, Greater}
use Rattle.lhg_math.specs.Number.{Number, lt, nought, unit}
use Rattle.lhg_math.specs.Signs.{is_nought}
use Rattle.lhg_num.specs.FracArithmetic.{frac_arithmetic}
use Rattle.lhg_num.specs.Marked.{Marked, done, and_then, valued, walk, marked_add, marked_sub, marked_mul, marked_cmp, marked_div, marked_mid}
use Rattle.lhg_row.specs.Row.{PlainPoint, PlainRow}
use Rattle.lhg_row.specs.Values.{marked_value}

-- f of each two members at one place of two lists, in order
abbrev pub each_two : {A B C : Type 0} → (A → B → Marked C) → List A → List B → Marked (List C)
each_two f [] ys = done []
each_two f (x ∷ xs) [] = done []
each_two f (x ∷ xs) (y ∷ ys) = and_then (f x y) (λ z. valued (λ zs. z ∷ zs) (each_two f xs ys))

-- y - x, coordinate by coordinate
abbrev pub change : PlainPoint → PlainPoint → Marked (List Number)
change x y = each_two (λ s t. marked_sub frac_arithmetic t s) x y

-- s + p * (t - s)
abbrev pub coordinate_at : Number → Number → Number → Marked Number
coordinate_at p s t = and_then (marked_sub frac_arithmetic t s) (λ d. and_then (marked_mul frac_arithmetic p d) (marked_add frac_arithmetic s))

-- x + p * (y - x), coordinate by coordinate
unfoldable pub point_at : PlainPoint → PlainPoint → Number → Marked PlainPoint
point_at x y p = each_two (coordinate_at p) x y

-- the place, where it has this order against 1
abbrev pub upto_end : Number → Ordering → Option Number
upto_end p Less = Some p
upto_end p Equal = Some p
upto_end p Greater = None

-- the place, where it is from 0 to 1
abbrev pub kept_place : Number → Marked (Option Number)
kept_place p = if lt p nought then done None else valued (upto_end p) (marked_cmp frac_arithmetic p unit)

-- (bound - value at x) / slope, where it is from 0 to 1
abbrev pub level_place : PlainPoint → PlainRow → Number → Marked (Option Number)
level_place x r slope =
    and_then (marked_value frac_arithmetic nought r.coefs x) (λ v.
    and_then (marked_sub frac_arithmetic r.bound v) (λ gap.
    and_then (marked_div gap slope) kept_place))

-- the place at which the row holds with equality on the way from x by d, where it is not constant there and the place is from 0 to 1
abbrev pub turn_place : PlainPoint → List Number → PlainRow → Marked (Option Number)
turn_place x d r = and_then (marked_value frac_arithmetic nought r.coefs d) (λ slope. if is_nought slope then done None else level_place x r slope)

-- a new place in front of q, or left out where it is q, or put in among the places behind q
abbrev pub put_by : Ordering → Number → Number → List Number → Marked (List Number) → Marked (List Number)
put_by Less p q qs later = done (p ∷ q ∷ qs)
put_by Equal p q qs later = done (q ∷ qs)
put_by Greater p q qs later = valued (λ ps. q ∷ ps) later

-- an ascending list with a new place put in, where it is not there yet
abbrev pub inserted : Number → List Number → Marked (List Number)
inserted p [] = done (p ∷ [])
inserted p (q ∷ qs) = let later = inserted p qs in and_then (marked_cmp frac_arithmetic p q) (λ o. put_by o p q qs later)

-- with a place put in, where there is one
abbrev pub with_place : List Number → Option Number → Marked (List Number)
with_place ps None = done ps
with_place ps (Some p) = inserted p ps

-- with the place of a row put in
abbrev pub with_turn : PlainPoint → List Number → List Number → PlainRow → Marked (List Number)
with_turn x d ps r = and_then (turn_place x d r) (with_place ps)

-- the places 0 and 1 with those of the rows, in their order
abbrev pub turns : PlainPoint → List Number → List PlainRow → Marked (List Number)
turns x d rows = walk (with_turn x d) (nought ∷ unit ∷ []) rows

-- each place behind p, with the middle of its neighbours in front of it
abbrev pub middles_behind : Number → List Number → Marked (List Number)
middles_behind p [] = done []
middles_behind p (q ∷ qs) = and_then (marked_mid p q) (λ m. valued (λ ps. m ∷ q ∷ ps) (middles_behind q qs))

-- the list with the middle between each two neighbours
abbrev pub with_middles : List Number → Marked (List Number)
with_middles [] = done []
with_middles (p ∷ ps) = valued (λ qs. p ∷ qs) (middles_behind p ps)

-- the check points of the segment from x to y against the rows, in order
unfoldable pub cut : PlainPoint → PlainPoint → List PlainRow → Marked (List Number)
cut x y rows = and_then (change x y) (λ d. and_then (turns x d rows) with_middles)
