-- When are two whole numbers the same?
use Rattle.std.specs.Prelude.{ℤ, Bool}
use Rattle.std.specs.Cmp.{IsEquivalence}
use Rattle.lhg_math.specs.Number.{whole}
use Rattle.lhg_math.specs.Signs.{same_number}
use Rattle.lhg_math.specs.SignLaws.{same_number_equivalence}

-- the two values are the same
abbrev pub same_value : ℤ → ℤ → Bool
same_value a b = same_number (whole a) (whole b)

-- equality of values is an equivalence
pub same_value_equivalence : IsEquivalence same_value
same_value_equivalence =
    let e = same_number_equivalence in
    record { refl = λ a. e.refl (whole a); symm = λ a b. e.symm (whole a) (whole b); congr = λ a b c h. e.congr (whole a) (whole b) (whole c) h }
