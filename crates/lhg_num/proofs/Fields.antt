-- What the fields of a fraction are, as the code reads them.
use Rattle.std.proofs.Common.{◌≡◌, ap, sym, ◌∙◌, pos, ℤ, neg_ℤ, ◌-ℤ◌, to_z, of_z, arith, ◌<◌, ◌^◌, refl}
use Rattle.std.proofs.lemmas.Int.{to_z-of_z, ints, fits_signed_from_abs}
use Rattle.std.specs.Int.{w128}
use Rattle.std.specs.Int.RustNames.{unsigned_abs, FitsSigned}
use Rattle.lhg_math.specs.Number.{Number, neg}
use Rattle.lhg_math.specs.Represents.{rep_eq, rep_neg, rep_ratio}
use Rattle.lhg_num.specs.Stored.{IsStored}
use Rattle.lhg_num.specs.FracModel.{number_of, fields_back}
use Rattle.lhg_num.specs.declared.fraction.Frac.TheInside.{Inside}

-- a number within the limit fits 128 bits
pub fits_abs : (z : ℤ) → unsigned_abs z < 2 ^ 127 → FitsSigned w128 z
fits_abs z h = fits_signed_from_abs w128 z h

-- the fields are the parts of the number
pub top_is : (f : Inside) → IsStored f.numerator f.denominator → (q : Number) → number_of f ≡ q → f.numerator ≡ q.top
top_is f h q e = sym (ap (λ g. g.numerator) (fields_back f h)) ∙ ap (λ x. x.top) e

-- the same for the denominator
pub bottom_is : (f : Inside) → IsStored f.numerator f.denominator → (q : Number) → number_of f ≡ q → f.denominator ≡ pos q.bottom
bottom_is f h q e = sym (ap (λ g. g.denominator) (fields_back f h)) ∙ ap (λ (x : Number). pos x.bottom) e

-- the same, as the code reads them
pub numerator_is : (f : Inside) → IsStored f.numerator f.denominator → (q : Number) → number_of f ≡ q → to_z w128 (of_z w128 f.numerator) ≡ q.top
numerator_is f h q e = to_z-of_z w128 f.numerator (fits_abs f.numerator h.in_range) ∙ top_is f h q e

-- the same for the denominator
pub denominator_is : (f : Inside) → IsStored f.numerator f.denominator → (q : Number) → number_of f ≡ q → to_z w128 (of_z w128 f.denominator) ≡ pos q.bottom
denominator_is f h q e = to_z-of_z w128 f.denominator (fits_abs f.denominator h.below) ∙ bottom_is f h q e

-- the fields with the numerator negated keep the negative
pub neg_is_view : (f : Inside) → IsStored f.numerator f.denominator → (q : Number) → number_of f ≡ q
    → number_of (record { numerator = to_z w128 (of_z w128 (pos 0 -ℤ to_z w128 (of_z w128 f.numerator))); denominator = to_z w128 (of_z w128 f.denominator) }) ≡ neg q
neg_is_view f h q e =
    let n_fits = fits_abs f.numerator h.in_range in
    let d_fits = fits_abs f.denominator h.below in
    let m : to_z w128 (of_z w128 (pos 0 -ℤ to_z w128 (of_z w128 f.numerator))) ≡ neg_ℤ f.numerator = omega (arith, ints, h.in_range) in
    let p = rep_neg (rep_ratio f.numerator (unsigned_abs f.denominator) h.lowest.positive) in
    simp (m, to_z-of_z w128 f.denominator d_fits) (sym (rep_eq p (rep_ratio (neg_ℤ f.numerator) (unsigned_abs f.denominator) h.lowest.positive) refl) ∙ ap neg e)
