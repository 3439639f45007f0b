-- What the field of a whole number is, as the code reads it.
use Rattle.std.proofs.Common.{arith, ◌||◌, false, ◌≡◌, ap, sym, ◌∙◌, pos, ℤ, neg_ℤ, ◌*ℤ◌, to_z, of_z, ◌<◌, ◌^◌, refl, subst}
use Rattle.std.proofs.lemmas.Int.{to_z-of_z}
use Rattle.std.specs.Int.{w128}
use Rattle.std.specs.Int.RustNames.{unsigned_abs}
use Rattle.std.specs.Ordering.{int_eq, int_cmp}
use Rattle.std.specs.Int.RustNames.{int_lt}
use Rattle.std.proofs.lemmas.Bool.Decides.{Decides-int_eq, same_from_decides}
use Rattle.lhg_math.specs.Number.{whole, neg, lt, compare}
use Rattle.lhg_math.specs.Inverses.{whole_parts}
use Rattle.lhg_math.specs.NumberOrder.{rep_lt}
use Rattle.lhg_math.specs.NumberRing.{mul_one_ℤ}
use Rattle.lhg_math.specs.Represents.{rep_whole, rep_neg, rep_eq}
use Rattle.lhg_math.specs.Signs.{same_number}
use Rattle.lhg_math.specs.SignLaws.{Decides-same_number}
use Rattle.lhg_num.proofs.Fields.{fits_abs}
use Rattle.lhg_num.specs.Limits.{is_past}
use Rattle.lhg_whole.specs.WholeModel.{IsWithin}
use Rattle.lhg_whole.specs.declared.whole.Whole.TheInside.{Inside}

-- the value, as the code reads it
pub value_is : (f : Inside) → IsWithin f.value → (z : ℤ) → f.value ≡ z → to_z w128 (of_z w128 f.value) ≡ z
value_is f h z e = to_z-of_z w128 f.value (fits_abs f.value h.below) ∙ e

-- a value is within the limit
pub within_at : (f : Inside) → IsWithin f.value → (z : ℤ) → f.value ≡ z → unsigned_abs z < 2 ^ 127
within_at f h z e = subst (λ w. unsigned_abs w < 2 ^ 127) e h.below

-- the negative of a whole number
pub neg-whole : (z : ℤ) → neg (whole z) ≡ whole (neg_ℤ z)
neg-whole z = rep_eq (rep_neg (rep_whole z)) (rep_whole (neg_ℤ z)) refl

-- which of two whole numbers is less
pub lt-whole : (a b : ℤ) → lt (whole a) (whole b) ≡ int_lt a b
lt-whole a b = rep_lt (rep_whole a) (rep_whole b) ∙ ap (λ w. int_lt w (b *ℤ pos 1)) (mul_one_ℤ a) ∙ ap (int_lt a) (mul_one_ℤ b)

-- the order of whole numbers
pub compare-whole : (a b : ℤ) → int_cmp a b ≡ compare (whole a) (whole b)
compare-whole a b = rw (lt-whole a b, lt-whole b a) refl

-- whole numbers are equal where their numerators are
pub same-whole : (a b : ℤ) → int_eq a b ≡ same_number (whole a) (whole b)
same-whole a b =
    let d = Decides-int_eq a b in
    let e = Decides-same_number (whole a) (whole b) in
    same_from_decides _ _ (λ h. ap whole (d.0 h), λ k. d.1 (sym ((whole_parts a).0) ∙ ap (λ x. x.top) k ∙ (whole_parts b).0)) e

-- a number within the limit is not past it
pub small_not_past : (z : ℤ) → unsigned_abs z < 2 ^ 127 → is_past z ≡ false
small_not_past z h = grind arith

-- the value, as the code reads it, is not past the limit
pub within_not_past : (f : Inside) → IsWithin f.value → (is_past (to_z w128 (of_z w128 f.value)) || is_past (pos 1)) ≡ false
within_not_past f h =
    ap (λ z. is_past z || is_past (pos 1)) (to_z-of_z w128 f.value (fits_abs f.value h.below)) ∙ ap (λ b. b || is_past (pos 1)) (small_not_past f.value h.below)
