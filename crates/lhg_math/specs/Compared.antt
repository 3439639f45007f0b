-- Numbers are compared by their numerators and by numerators brought to one denominator.
use Rattle.std.proofs.Common.{◌≡◌, ℕ, ◌<◌, ◌*◌, ◌/◌, refl, ap, sym, ◌∙◌}
use Rattle.std.proofs.Math.IntN.{ℤ, pos, ◌*ℤ◌, zero-*ℤ}
use Rattle.std.specs.Int.RustNames.{int_lt}
use Rattle.std.specs.Ordering.{int_cmp}
use Rattle.lhg_math.specs.Gcd.{gcd}
use Rattle.lhg_math.specs.GcdLemmas.{gcd-left, gcd-right, gcd-pos}
use Rattle.lhg_math.specs.Integers.{int_lt-mul, mul_assoc_ℤ}
use Rattle.lhg_math.specs.Number.{Number, lt, nought, compare, sign_of}
use Rattle.lhg_math.specs.NumberRing.{mul_one_ℤ}
use Rattle.lhg_math.specs.NumberOrder.{rep_lt}
use Rattle.lhg_math.specs.Represents.{rep_self, rep_nought}

-- the order against 0 is that of the numerator
pub sign_of-top : (x : Number) → int_cmp x.top (pos 0) ≡ sign_of x
sign_of-top x =
    let a : lt x nought ≡ int_lt x.top (pos 0) = rep_lt (rep_self x) rep_nought ∙ ap (λ w. int_lt w (pos 0 *ℤ pos x.bottom)) (mul_one_ℤ x.top) ∙ ap (int_lt x.top) (zero-*ℤ (pos x.bottom)) in
    let b : lt nought x ≡ int_lt (pos 0) x.top = rep_lt rep_nought (rep_self x) ∙ ap (λ w. int_lt w (x.top *ℤ pos 1)) (zero-*ℤ (pos x.bottom)) ∙ ap (int_lt (pos 0)) (mul_one_ℤ x.top) in
    rw (a, b) refl

module _ (x y : Number) where
  abbrev g : ℕ
  g = gcd x.bottom y.bottom

  side : (a : ℤ) (u v : ℕ) → u * g ≡ v → (a *ℤ pos u) *ℤ pos g ≡ a *ℤ pos v
  side a u v e = mul_assoc_ℤ a (pos u) (pos g) ∙ ap (λ (w : ℕ). a *ℤ pos w) e

  -- the order is that of the numerators over the least common denominator
  pub compare-sides : int_cmp (x.top *ℤ pos (y.bottom / g)) (y.top *ℤ pos (x.bottom / g)) ≡ compare x y
  unfolding lt
  compare-sides =
      let some : 0 < g = gcd-pos x.bottom y.bottom y.lowest.positive in
      let p = side x.top (y.bottom / g) y.bottom (gcd-right x.bottom y.bottom) in
      let q = side y.top (x.bottom / g) x.bottom (gcd-left x.bottom y.bottom) in
      let a : int_lt (x.top *ℤ pos (y.bottom / g)) (y.top *ℤ pos (x.bottom / g)) ≡ lt x y = sym (int_lt-mul _ _ g some) ∙ ap (λ w. int_lt w ((y.top *ℤ pos (x.bottom / g)) *ℤ pos g)) p ∙ ap (int_lt (x.top *ℤ pos y.bottom)) q in
      let b : int_lt (y.top *ℤ pos (x.bottom / g)) (x.top *ℤ pos (y.bottom / g)) ≡ lt y x = sym (int_lt-mul _ _ g some) ∙ ap (λ w. int_lt w ((x.top *ℤ pos (y.bottom / g)) *ℤ pos g)) q ∙ ap (int_lt (y.top *ℤ pos x.bottom)) p in
      rw (a, b) refl
