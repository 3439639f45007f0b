-- The parts of an inverse, of a whole number and of a ratio.
use Rattle.std.proofs.Common.{◌≡◌, ℕ, zero, suc, ◌<◌, ◌*◌, ◌/◌, arith, refl, ap, ◌∙◌}
use Rattle.std.proofs.Math.IntN.{ℤ, pos, negsuc, neg_ℤ, ◌*ℤ◌}
use Rattle.std.specs.Int.RustNames.{unsigned_abs, int_div}
use Rattle.lhg_math.specs.Gcd.{gcd}
use Rattle.lhg_math.specs.GcdLemmas.{gcd_comm, gcd-one}
use Rattle.lhg_math.specs.Integers.{mul-neg_ℤ}
use Rattle.lhg_math.specs.Reduce.{abs-neg}
use Rattle.lhg_math.specs.Number.{Number, ratio, ratio_suc, whole, mul, inverse, quot, flip_sign, half}
use Rattle.lhg_math.specs.Represents.{rep_whole, rep_ratio, rep_mul, rep_eq, ratio_parts}
use Rattle.lhg_math.specs.NumberRing.{mul_one_ℤ}

-- the sign moves no size
pub abs-flip_sign : (t n : ℤ) → unsigned_abs (flip_sign t n) ≡ unsigned_abs n
abs-flip_sign (pos a) n = refl
abs-flip_sign (negsuc a) n = abs-neg n

-- the parts of an inverse are those of the number, the other way round
pub inverse_parts : (x : Number) → 0 < unsigned_abs x.top → ((inverse x).top ≡ flip_sign x.top (pos x.bottom)) × ((inverse x).bottom ≡ unsigned_abs x.top)
unfolding inverse
inverse_parts x some = ratio_parts (flip_sign x.top (pos x.bottom)) (unsigned_abs x.top) (record {
  positive = some;
  coprime = ap (λ w. gcd w (unsigned_abs x.top)) (abs-flip_sign x.top (pos x.bottom)) ∙ gcd_comm x.bottom (unsigned_abs x.top) ∙ x.lowest.coprime;
})

-- the parts of a whole number
pub whole_parts : (n : ℤ) → ((whole n).top ≡ n) × ((whole n).bottom ≡ 1)
unfolding whole
whole_parts n = ratio_parts n 1 (record { positive = omega arith; coprime = gcd-one (unsigned_abs n) })

-- the parts of 1/2
pub half_parts : (half.top ≡ pos 1) × (half.bottom ≡ 2)
unfolding half gcd
half_parts = ratio_parts (pos 1) 2 (record { positive = omega arith; coprime = refl })

-- the parts of a ratio are what is left after the greatest common divisor
pub ratio_top : (n : ℤ) (d : ℕ) → 0 < d → (ratio n d).top ≡ int_div n (pos (gcd (unsigned_abs n) d))
unfolding ratio ratio_suc
ratio_top n zero h = absurd (omega arith)
ratio_top n (suc d) h = refl

-- the same for the denominator
pub ratio_bottom : (n : ℤ) (d : ℕ) → 0 < d → (ratio n d).bottom ≡ d / gcd (unsigned_abs n) d
unfolding ratio ratio_suc
ratio_bottom n zero h = absurd (omega arith)
ratio_bottom n (suc d) h = refl

inverse_whole : (d : ℤ) → inverse (whole d) ≡ ratio (flip_sign d (pos 1)) (unsigned_abs d)
unfolding inverse
inverse_whole d =
    let w = whole_parts d in
    ap (λ t. ratio (flip_sign t (pos (whole d).bottom)) (unsigned_abs t)) w.0 ∙ ap (λ (b : ℕ). ratio (flip_sign d (pos b)) (unsigned_abs d)) w.1

mul-flip_sign : (d n : ℤ) → n *ℤ flip_sign d (pos 1) ≡ flip_sign d n
mul-flip_sign (pos a) n = mul_one_ℤ n
mul-flip_sign (negsuc a) n = mul-neg_ℤ n (pos 1) ∙ ap neg_ℤ (mul_one_ℤ n)

-- the quotient of two whole numbers is their ratio, with the sign in the numerator
pub quot-whole : (n d : ℤ) → 0 < unsigned_abs d → quot (whole n) (whole d) ≡ ratio (flip_sign d n) (unsigned_abs d)
unfolding quot
quot-whole n d some =
    ap (mul (whole n)) (inverse_whole d)
    ∙ rep_eq (rep_mul (rep_whole n) (rep_ratio (flip_sign d (pos 1)) (unsigned_abs d) some)) (rep_ratio (flip_sign d n) (unsigned_abs d) some)
    (ap (λ w. w *ℤ pos (unsigned_abs d)) (mul-flip_sign d n) ∙ ap (λ (w : ℕ). flip_sign d n *ℤ pos w) (one_times (unsigned_abs d)))
  where
    one_times : (a : ℕ) → a ≡ 1 * a
    one_times a = omega arith
