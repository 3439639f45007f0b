-- How fractions scale a row, and that this is lawful.
use Rattle.std.specs.Prelude.{◌≡◌, true, false, cond, List, [], ◌∷◌, map}
use Rattle.std.proofs.Common.{refl, sym, ap, ◌∙◌}
use Rattle.lhg_math.specs.Number.{Number, mul, lt, nought, unit, inverse, quot}
use Rattle.lhg_math.specs.NumberRing.{mul-nought, mul_comm, mul_assoc, mul-unit}
use Rattle.lhg_math.specs.NumberOrder.{lt-mul, nought_unit, mul_positive}
use Rattle.lhg_math.specs.Quotients.{mul-inverse, abs_pos_of_lt, quot-is}
use Rattle.lhg_num.specs.Arithmetic.{IsMultiple, multiple_self}
use Rattle.lhg_math.specs.Signs.{size_of, is_nought, lead}
use Rattle.lhg_math.specs.SignLaws.{nought_is, size_above, is_nought-scaled, size_of-scaled, lead-scaled}
use Rattle.lhg_math.specs.Tests.{by_bool}
use Rattle.lhg_math.specs.Quotients.{map-quot, map_mul, inverse_positive, inverse_scaled}

-- each entry divided by the size of the first entry that is not 0; a row of zeros stays
abbrev pub canon_frac : List Number → List Number
canon_frac row = cond (is_nought (lead row)) row (map (λ x. quot x (size_of (lead row))) row)

-- a scaled row is a positive multiple
pub canon_multiple : (row : List Number) → IsMultiple row (canon_frac row)
canon_multiple row =
    by_bool (is_nought (lead row))
    (λ e. rw e (multiple_self row))
    (λ e. record { factor = inverse (size_of (lead row)); positive = inverse_positive _ (size_above (lead row) e); entries = rw e (map-quot (size_of (lead row)) row) })

-- a factor leaves a row of zeros as it is
all_nought : (k : Number) (xs : List Number) → is_nought (lead xs) ≡ true → map (λ x. mul k x) xs ≡ xs
all_nought k [] h = refl
all_nought k (x ∷ xs) h =
    by_bool (is_nought x)
    (λ e. let t : is_nought (lead xs) ≡ true = rw e at h in
    ap (λ y. y ∷ map (λ z. mul k z) xs) (ap (λ w. mul k w) (nought_is x e) ∙ mul-nought k ∙ sym (nought_is x e)) ∙ ap (λ ys. x ∷ ys) (all_nought k xs t))
    (λ e. let t : is_nought x ≡ true = rw e at h in let z : true ≡ false = sym t ∙ e in cc)

-- a factor of the entries and of the divisor falls away
map_scaled : (a b k : Number) (xs : List Number) → mul a k ≡ b → map (λ x. mul a x) (map (λ x. mul k x) xs) ≡ map (λ x. mul b x) xs
map_scaled a b k [] e = refl
map_scaled a b k (x ∷ xs) e = ap (λ y. y ∷ map (λ z. mul a z) (map (λ z. mul k z) xs)) (sym (mul_assoc a k x) ∙ ap (λ w. mul w x) e) ∙ ap (λ ys. mul b x ∷ ys) (map_scaled a b k xs e)

-- a factor of the entries and of the divisor falls away
quot_scaled : (k s : Number) (xs : List Number) → lt nought k ≡ true → lt nought s ≡ true → map (λ x. quot x (mul k s)) (map (λ x. mul k x) xs) ≡ map (λ x. quot x s) xs
quot_scaled k s xs h p = map-quot (mul k s) (map (λ x. mul k x) xs) ∙ map_mul (inverse (mul k s)) k (inverse s) xs (inverse_scaled k s h p) ∙ sym (map-quot s xs)

-- all positive multiples of a row are scaled to the same row
pub canon_same : (old new : List Number) → IsMultiple old new → canon_frac new ≡ canon_frac old
canon_same old new m =
    let k = m.factor in
    let s = size_of (lead old) in
    let row = map (λ x. mul k x) old in
    let size : size_of (lead row) ≡ mul k s = ap size_of (lead-scaled k old m.positive) ∙ size_of-scaled k (lead old) m.positive in
    let zero : is_nought (lead row) ≡ is_nought (lead old) = ap is_nought (lead-scaled k old m.positive) ∙ is_nought-scaled k (lead old) m.positive in
    ap canon_frac m.entries ∙ ap (λ b. cond b row (map (λ x. quot x (size_of (lead row))) row)) zero
    ∙ by_bool (is_nought (lead old))
    (λ e. rw e (all_nought k old e))
    (λ e. rw e (ap (λ w. map (λ x. quot x w) row) size ∙ quot_scaled k s old m.positive (size_above (lead old) e)))
