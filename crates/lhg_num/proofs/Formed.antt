-- Two numbers that were both formed within the limit.
use Rattle.std.proofs.Common.{◌≡◌, ℤ, pos, ◌<◌, ◌^◌, to_z, of_z, arith, refl, ap, ◌∙◌, true, false, ◌||◌, Option, Some, None}
use Rattle.std.proofs.lemmas.Int.{to_z-of_z}
use Rattle.std.specs.Int.{w128}
use Rattle.std.specs.Int.RustNames.{unsigned_abs}
use Rattle.lhg_math.specs.Tests.{by_bool}
use Rattle.lhg_num.specs.Limits.{is_past, formed}
use Rattle.lhg_num.specs.Parts.{both_of}
use Rattle.lhg_num.proofs.Fields.{fits_abs}

-- a number that is not past the limit is small
pub small : (z : ℤ) → is_past z ≡ false → unsigned_abs z < 2 ^ 127
small z h = grind arith

-- neither P nor Q is past the limit, and p and q are they, as the code reads them
pub record AreFormed (P Q p q : ℤ) : Type 0 where
  pub first : is_past P ≡ false
  pub second : is_past Q ≡ false
  pub left : to_z w128 (of_z w128 p) ≡ P
  pub right : to_z w128 (of_z w128 q) ≡ Q

-- the two numbers of a pair
abbrev pair_or : Option (ℤ × ℤ) → ℤ × ℤ
pair_or None = (pos 0, pos 0)
pair_or (Some p) = p

-- a pair that was formed
pub both_some : (P Q p q : ℤ) → Some (p, q) ≡ both_of (formed P) (formed Q) → AreFormed P Q p q
both_some P Q p q o =
    by_bool (is_past P)
    (λ h. let x : Some (p, q) ≡ None = rw h at o in cc)
    (λ h. by_bool (is_past Q)
    (λ k. let x : Some (p, q) ≡ None = rw (h, k) at o in cc)
    (λ k. let x : Some (p, q) ≡ Some (P, Q) = rw (h, k) at o in
    record {
      first = h;
      second = k;
      left = ap (λ w. to_z w128 (of_z w128 (pair_or w).0)) x ∙ to_z-of_z w128 P (fits_abs P (small P h));
      right = ap (λ w. to_z w128 (of_z w128 (pair_or w).1)) x ∙ to_z-of_z w128 Q (fits_abs Q (small Q k));
    }))

-- where no pair was formed, one of the two is past the limit
pub both_none : (P Q : ℤ) → None ≡ both_of (formed P) (formed Q) → (is_past P || is_past Q) ≡ true
both_none P Q o =
    by_bool (is_past P) (λ h. rw h refl)
    (λ h. by_bool (is_past Q) (λ k. rw (h, k) refl) (λ k. let x : None ≡ Some (P, Q) = rw (h, k) at o in cc))
