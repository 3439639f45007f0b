-- A middle is a sum and then its product with 1/2.
use Rattle.std.proofs.Common.{◌≡◌, false, Result, Ok, Err, subst}
use Rattle.lhg_math.specs.Number.{Number, add, mul, half, mid}
use Rattle.lhg_num.specs.Limits.{IsExact, frac_refuses_add, frac_refuses_mul, frac_refuses_mid}

-- where the sum is not refused, the middle is refused exactly where the product is
product_exact : {E : Type 0} (r : Result Number E) (x y : Number) → frac_refuses_add x y ≡ false
    → IsExact r (frac_refuses_mul (add x y) half) (λ q. q ≡ mul (add x y) half) → IsExact r (frac_refuses_mid x y) (λ q. q ≡ mid x y)
unfolding mid
product_exact (Ok q) x y k h = (rw k h.0, h.1)
product_exact (Err e) x y k h = rw k h

-- the same for what the code computed
pub mid_exact : {E : Type 0} (r : Result Number E) (x y sum part : Number) → frac_refuses_add x y ≡ false → sum ≡ add x y → part ≡ half
    → IsExact r (frac_refuses_mul sum part) (λ q. q ≡ mul sum part) → IsExact r (frac_refuses_mid x y) (λ q. q ≡ mid x y)
mid_exact r x y sum part k e f h =
    product_exact r x y k (subst (λ (p : Number). IsExact r (frac_refuses_mul (add x y) p) (λ q. q ≡ mul (add x y) p)) f
    (subst (λ (s : Number). IsExact r (frac_refuses_mul s part) (λ q. q ≡ mul s part)) e h))
