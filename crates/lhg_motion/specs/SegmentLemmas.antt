-- The value of a row moves evenly along a segment, and its truth is told by the sign of its excess alone.
use Rattle.std.specs.Prelude.{◌≡◌, Bool, not, cond, List, [], ◌∷◌, length}
use Rattle.std.proofs.Common.{refl, sym, ap, ◌∙◌, arith}
use Rattle.lhg_math.specs.Number.{Number, add, mul, neg, lt, nought, unit}
use Rattle.lhg_math.specs.NumberOrder.{lt-difference, difference-lt}
use Rattle.lhg_math.specs.Interpolate.{interpolate}
use Rattle.lhg_math.specs.InterpolateLaws.{interpolate-add, interpolate-mul, interpolate_less, interpolate_same, interpolate_start, interpolate_end, interpolate_twice}
use Rattle.lhg_math.specs.Crossings.{SameSign}
use Rattle.lhg_row.specs.Row.{PlainRow, PlainPoint, row_value, value_at, holds_at}
use Rattle.lhg_motion.specs.Segment.{along}

-- between a point and itself lies that point alone
pub along_same : (x : PlainPoint) (p : Number) → along x x p ≡ x
along_same [] p = refl
along_same (c ∷ x) p = ap (λ w. w ∷ along x x p) (interpolate_same c p) ∙ ap (λ w. c ∷ w) (along_same x p)

-- the sums so far and the coordinates move evenly, and so do the sums in the end
value_on : (s t p : Number) (cs xs ys : List Number) → length xs ≡ length ys
    → row_value (interpolate s t p) cs (along xs ys p) ≡ interpolate (row_value s cs xs) (row_value t cs ys) p
value_on s t p [] xs ys e = refl
value_on s t p (c ∷ cs) [] [] e = refl
value_on s t p (c ∷ cs) [] (y ∷ ys) e = absurd (omega arith)
value_on s t p (c ∷ cs) (x ∷ xs) [] e = absurd (omega arith)
value_on s t p (c ∷ cs) (x ∷ xs) (y ∷ ys) e =
    ap (λ w. row_value w cs (along xs ys p)) (ap (λ w. add (interpolate s t p) w) (sym (interpolate-mul c x y p)) ∙ sym (interpolate-add s t (mul c x) (mul c y) p))
    ∙ value_on (add s (mul c x)) (add t (mul c y)) p cs xs ys (omega arith)

-- the value of a row moves evenly along a segment
pub value_along : (r : PlainRow) (x y : PlainPoint) (p : Number) → length x ≡ length y
    → value_at r (along x y p) ≡ interpolate (value_at r x) (value_at r y) p
value_along r x y p e = ap (λ w. row_value w r.coefs (along x y p)) (sym (interpolate_same nought p)) ∙ value_on nought nought p r.coefs x y e

-- how far the value is past the bound
abbrev pub excess : PlainRow → PlainPoint → Number
excess r p = add (value_at r p) (neg r.bound)

-- whether a row holds where its excess is e
abbrev pub fits_sign : Bool → Number → Bool
fits_sign strict e = cond strict (lt e nought) (not (lt nought e))

-- the truth of a row is told by its excess
pub holds_excess : (r : PlainRow) (p : PlainPoint) → holds_at r p ≡ fits_sign r.strict (excess r p)
holds_excess r p = rw (difference-lt r.bound (value_at r p), lt-difference r.bound (value_at r p)) refl

-- the excess moves evenly along a segment
pub excess_along : (r : PlainRow) (x y : PlainPoint) (p : Number) → length x ≡ length y
    → excess r (along x y p) ≡ interpolate (excess r x) (excess r y) p
excess_along r x y p e = ap (λ w. add w (neg r.bound)) (value_along r x y p e) ∙ interpolate_less (value_at r x) (value_at r y) r.bound p

-- a row has one truth at two points where its excess has one sign
pub same_truth : (r : PlainRow) (p q : PlainPoint) → SameSign (excess r p) (excess r q) → holds_at r p ≡ holds_at r q
same_truth r p q h =
    holds_excess r p ∙ ap (λ w. cond r.strict w (not (lt nought (excess r p)))) h.below ∙ ap (λ w. cond r.strict (lt (excess r q) nought) (not w)) h.above ∙ sym (holds_excess r q)

-- the place 0 is the first end
pub along_start : (x y : PlainPoint) → length x ≡ length y → along x y nought ≡ x
along_start [] ys e = refl
along_start (x ∷ xs) [] e = absurd (omega arith)
along_start (x ∷ xs) (y ∷ ys) e = ap (λ w. w ∷ along xs ys nought) (interpolate_start x y) ∙ ap (λ w. x ∷ w) (along_start xs ys (omega arith))

-- the place 1 is the second end
pub along_end : (x y : PlainPoint) → length x ≡ length y → along x y unit ≡ y
along_end [] [] e = refl
along_end [] (y ∷ ys) e = absurd (omega arith)
along_end (x ∷ xs) [] e = absurd (omega arith)
along_end (x ∷ xs) (y ∷ ys) e = ap (λ w. w ∷ along xs ys unit) (interpolate_end x y) ∙ ap (λ w. y ∷ w) (along_end xs ys (omega arith))

-- a segment between two places of a segment
pub along_twice : (x y : PlainPoint) (u v r : Number) → length x ≡ length y → along (along x y u) (along x y v) r ≡ along x y (interpolate u v r)
along_twice [] ys u v r e = refl
along_twice (x ∷ xs) [] u v r e = absurd (omega arith)
along_twice (x ∷ xs) (y ∷ ys) u v r e =
    ap (λ w. w ∷ along (along xs ys u) (along xs ys v) r) (sym (interpolate_twice x y u v r)) ∙ ap (λ w. interpolate x y (interpolate u v r) ∷ w) (along_twice xs ys u v r (omega arith))

-- the points of a segment have as many coordinates as its ends
pub length-along : (x y : PlainPoint) (p : Number) → length x ≡ length y → length (along x y p) ≡ length x
length-along [] ys p e = refl
length-along (x ∷ xs) [] p e = absurd (omega arith)
length-along (x ∷ xs) (y ∷ ys) p e = let k = length-along xs ys p (omega arith) in omega arith
