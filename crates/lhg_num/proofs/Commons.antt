-- The bounds of a greatest common divisor of parts.
use Rattle.std.proofs.Common.{arith, ◌≡◌, pos, ℤ, ℕ, ◌<◌, ◌^◌, ◌<ℤ◌, negsuc, ap, ◌∙◌, FitsSigned, to_z, of_z}
use Rattle.std.proofs.lemmas.Int.{ints, to_z-of_z}
use Rattle.std.specs.Int.{w128}
use Rattle.std.specs.Int.RustNames.{unsigned_abs}
use Rattle.lhg_math.specs.Gcd.{gcd}
use Rattle.lhg_math.specs.GcdLemmas.{gcd-le, gcd-pos}

-- a positive number of 128 bits has a size of at most 2^127 - 1
abs_above : (d : ℤ) → pos 0 <ℤ d → FitsSigned w128 d → (0 < unsigned_abs d) × (unsigned_abs d < 2 ^ 127)
abs_above (pos n) h f = (omega (arith, ints), f.sfits)
abs_above (negsuc n) h f = absurd (omega (arith, ints))

-- r is the greatest common divisor of the sizes, and fits
pub record IsCommon (n d : ℤ) (r : ℕ) : Type 0 where
  pub value : r ≡ gcd (unsigned_abs n) (unsigned_abs d)
  pub above : 0 < r
  pub below : r < 2 ^ 127

-- what the code computes from the two sizes is it
pub is_common : (n d : ℤ) (r m k : ℕ) → pos 0 <ℤ d → FitsSigned w128 n → FitsSigned w128 d
    → m ≡ unsigned_abs (to_z w128 (of_z w128 n)) → k ≡ unsigned_abs (to_z w128 (of_z w128 d)) → r ≡ gcd m k → IsCommon n d r
is_common n d r m k h fn fd em ek er =
    let v : r ≡ gcd (unsigned_abs n) (unsigned_abs d) = er ∙ ap (λ x. gcd x k) (em ∙ ap unsigned_abs (to_z-of_z w128 n fn)) ∙ ap (gcd (unsigned_abs n)) (ek ∙ ap unsigned_abs (to_z-of_z w128 d fd)) in
    let a = abs_above d h fd in
    let p = gcd-pos (unsigned_abs n) (unsigned_abs d) a.0 in
    let q = gcd-le (unsigned_abs n) (unsigned_abs d) a.0 in
    record { value = v; above = omega (arith, a.0); below = omega (arith, a.1) }
