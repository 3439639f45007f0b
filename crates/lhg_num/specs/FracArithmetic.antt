-- The arithmetic of fractions in 128 bits, and that it is lawful.
use Rattle.std.specs.Prelude.{◌≡◌, true, List, [], ◌∷◌}
use Rattle.std.proofs.Common.{refl}
use Rattle.lhg_math.specs.Number.{Number}
use Rattle.lhg_math.specs.Tests.{all_of}
use Rattle.lhg_num.specs.Limits.{frac_refuses_add, frac_refuses_sub, frac_refuses_mul, frac_refuses_cmp, frac_refuses_canon}
use Rattle.lhg_num.specs.FracCanon.{canon_frac, canon_multiple, canon_same}
use Rattle.lhg_num.specs.Arithmetic.{Arithmetic, IsLawful}

-- every number is a fraction
abbrev pub frac_arithmetic : Arithmetic
frac_arithmetic = record {
  holds = λ x. true;
  refuses_add = frac_refuses_add;
  refuses_sub = frac_refuses_sub;
  refuses_mul = frac_refuses_mul;
  refuses_cmp = frac_refuses_cmp;
  refuses_canon = frac_refuses_canon;
  canon_of = canon_frac;
}

-- each row is held
all_true : (row : List Number) → all_of (λ x. true) row ≡ true
all_true [] = refl
all_true (x ∷ xs) = all_true xs

-- fractions keep the laws of a number type
pub frac_is_lawful : IsLawful frac_arithmetic
frac_is_lawful = record {
  multiple = λ row h. canon_multiple row;
  same = λ old new h k m. canon_same old new m;
  nought_held = refl;
  unit_held = refl;
  add_held = λ x y h k. refl;
  mul_held = λ x y h k. refl;
  neg_held = λ x h. refl;
  canon_held = λ row h. all_true (canon_frac row);
}
