-- Lowest terms are reached by division by the greatest common divisor.
use Rattle.std.proofs.Common.{◌≡◌, ℕ, zero, suc, ◌/◌, arith, refl, ap, ◌∙◌}
use Rattle.std.proofs.Math.IntN.{ℤ, pos, negsuc, neg_ℤ}
use Rattle.std.specs.Int.RustNames.{unsigned_abs, int_div}
use Rattle.lhg_math.specs.Gcd.{gcd}
use Rattle.lhg_math.specs.Lowest.{IsLowest}
use Rattle.lhg_math.specs.GcdLemmas.{reduced, right-pos}

-- negation keeps the size
pub abs-neg : (n : ℤ) → unsigned_abs (neg_ℤ n) ≡ unsigned_abs n
abs-neg (pos zero) = refl
abs-neg (pos (suc n)) = refl
abs-neg (negsuc n) = refl

-- the size of a quotient is the quotient of the size
pub abs-quot : (n : ℤ) (g : ℕ) → unsigned_abs (int_div n (pos g)) ≡ unsigned_abs n / g
abs-quot (pos a) g = refl
abs-quot (negsuc a) g = abs-neg (pos (suc a / g))

-- what is left after the greatest common divisor is in lowest terms
pub lowest_of : (n : ℤ) (d : ℕ) → IsLowest (int_div n (pos (gcd (unsigned_abs n) (suc d)))) (suc d / gcd (unsigned_abs n) (suc d))
lowest_of n d = record {
  positive = right-pos (unsigned_abs n) (suc d) (omega arith);
  coprime = ap (λ x. gcd x (suc d / gcd (unsigned_abs n) (suc d))) (abs-quot n (gcd (unsigned_abs n) (suc d))) ∙ reduced (unsigned_abs n) (suc d) (omega arith);
}

-- negation keeps lowest terms
pub lowest-neg : (n : ℤ) (d : ℕ) → IsLowest n d → IsLowest (neg_ℤ n) d
lowest-neg n d h = record { positive = h.positive; coprime = ap (λ x. gcd x d) (abs-neg n) ∙ h.coprime }
