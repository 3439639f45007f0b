-- Which point of a piece of fractions is its sample?
use Rattle.std.specs.Prelude.{ℕ, zero, suc, Bool, ◌||◌, cond, [], ◌∷◌, ◌++◌, Option, Some, None}
use Rattle.std.specs.declared.cmp.Ordering.{Ordering}
use Rattle.std.specs.declared.cmp.Ordering.TheVariants.{Less, Equal, Greater}
use Rattle.lhg_math.specs.Number.{Number, nought, unit}
use Rattle.lhg_math.specs.Bounds.{Bound}
use Rattle.lhg_num.specs.FracArithmetic.{frac_arithmetic}
use Rattle.lhg_num.specs.Marked.{Marked, done, and_then, valued, walk, marked_add, marked_sub, marked_cmp, marked_div, marked_mid}
use Rattle.lhg_row.specs.Row.{PlainRow, PlainPoint}
use Rattle.lhg_row.specs.Piece.{PlainPiece}
use Rattle.lhg_row.specs.Values.{marked_value}
use Rattle.lhg_row.specs.Column.{coef_at, upper_at, lower_at}
use Rattle.lhg_row.specs.Eliminate.{eliminate}

-- ---- bounds
-- the bound that a row gives to variable j where the earlier variables have the values p
abbrev pub bound_at : ℕ → PlainPoint → PlainRow → Marked Bound
bound_at j p r =
    and_then (marked_value frac_arithmetic nought r.coefs p) (λ v.
    and_then (marked_sub frac_arithmetic r.bound v) (λ w.
    valued (λ x. record { at = x; strict = r.strict }) (marked_div w (coef_at j r))))

-- of two equal bounds, the one that is strict where either is
abbrev pub stricter_of : Bound → Bound → Bound
stricter_of kept next = record { at = kept.at; strict = kept.strict || next.strict }

-- the greater of two bounds, by the order of the first against the second
abbrev pub greater_of : Bound → Bound → Ordering → Bound
greater_of kept next Less = next
greater_of kept next Equal = stricter_of kept next
greater_of kept next Greater = kept

-- the lesser of two bounds, by the same order
abbrev pub lesser_of : Bound → Bound → Ordering → Bound
lesser_of kept next Less = kept
lesser_of kept next Equal = stricter_of kept next
lesser_of kept next Greater = next

-- the bound kept so far and the next one give one
abbrev pub tighten : (Bound → Bound → Ordering → Bound) → Option Bound → Bound → Marked (Option Bound)
tighten pick None next = done (Some next)
tighten pick (Some kept) next = valued (λ o. Some (pick kept next o)) (marked_cmp frac_arithmetic kept.at next.at)

-- the bound kept so far, and with it that of a row which bounds the variable from this side
abbrev pub tightened : (Bound → Bound → Ordering → Bound) → (PlainRow → Bool) → ℕ → PlainPoint → Option Bound → PlainRow → Marked (Option Bound)
tightened pick bounds j p kept r =
    let both = and_then (bound_at j p r) (tighten pick kept) in
    cond (bounds r) both (done kept)

-- the tightest of the bounds that the rows give from this side, in their order
abbrev pub tightest : (Bound → Bound → Ordering → Bound) → (PlainRow → Bool) → ℕ → PlainPoint → PlainPiece → Marked (Option Bound)
tightest pick bounds j p rows = walk (tightened pick bounds j p) None rows

-- the greatest lower bound of variable j
abbrev pub greatest_lower : ℕ → PlainPoint → PlainPiece → Marked (Option Bound)
greatest_lower j p rows = tightest greater_of (lower_at j) j p rows

-- its least upper bound
abbrev pub least_upper : ℕ → PlainPoint → PlainPiece → Marked (Option Bound)
least_upper j p rows = tightest lesser_of (upper_at j) j p rows

-- ---- the value between two bounds
-- no bound: 0. A lower bound alone: that bound, or 1 more where it is strict. An upper bound alone: that bound, or 1 less where it is
-- strict. Both: the lower one, or the upper one where the lower is strict, or the middle where both are
abbrev pub chosen : Option Bound → Option Bound → Marked Number
chosen None None = done nought
chosen (Some l) None = cond l.strict (marked_add frac_arithmetic l.at unit) (done l.at)
chosen None (Some u) = cond u.strict (marked_sub frac_arithmetic u.at unit) (done u.at)
chosen (Some l) (Some u) = cond l.strict (cond u.strict (marked_mid l.at u.at) (done u.at)) (done l.at)

-- the value of variable j where the earlier variables have the values p
abbrev pub value_of : ℕ → PlainPoint → PlainPiece → Marked Number
value_of j p rows = and_then (greatest_lower j p rows) (λ l. and_then (least_upper j p rows) (chosen l))

-- ---- the sample
-- the values of the variables, from the first to the last: that of the last one is chosen by the rows, those before it by what is left without it
abbrev pub sample : ℕ → PlainPiece → Marked PlainPoint
sample zero rows = done []
sample (suc j) rows = and_then (eliminate frac_arithmetic j rows) (λ es. and_then (sample j es) (λ p. valued (λ v. p ++ v ∷ []) (value_of j p rows)))
