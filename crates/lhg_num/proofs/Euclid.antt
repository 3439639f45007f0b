-- The steps and the end of a search for the greatest common divisor.
use Rattle.std.proofs.Common.{◌≡◌, ℕ, ◌%◌, ap, sym, ◌∙◌}
use Rattle.lhg_math.specs.Gcd.{gcd}
use Rattle.lhg_math.specs.GcdLemmas.{gcd-step, gcd-zero, gcd-one}

-- a step keeps the divisor
pub kept : (a b x y : ℕ) → gcd x y ≡ gcd a b → gcd y (x % y) ≡ gcd a b
kept a b x y h = gcd-step x y ∙ h

-- with 1 the divisor is 1
pub ended_at_one : (a b x y : ℕ) → y ≡ 1 → gcd x y ≡ gcd a b → 1 ≡ gcd a b
ended_at_one a b x y e h = sym (gcd-one x) ∙ ap (gcd x) (sym e) ∙ h

-- with 0 it is the other number
pub ended_at_zero : (a b x y : ℕ) → y ≡ 0 → gcd x y ≡ gcd a b → x ≡ gcd a b
ended_at_zero a b x y e h = sym (gcd-zero x) ∙ ap (gcd x) (sym e) ∙ h
