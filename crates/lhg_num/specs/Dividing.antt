-- What a division answers.
use Rattle.std.specs.Prelude.{◌≡◌, Bool, true, false, Result, Ok, Err}
use Rattle.lhg_num.specs.declared.refusals.DivError.{DivError}
use Rattle.lhg_num.specs.declared.refusals.DivError.TheVariants.{Zero, Wide}

-- Zero exactly where the divisor is 0, Wide exactly where it is not and the operands are refused, and else the value
abbrev pub IsDivided : {T : Type 0} → Result T DivError → Bool → Bool → (T → Type 0) → Type 0
IsDivided (Ok x) zero refused P = (zero ≡ false) × (refused ≡ false) × P x
IsDivided (Err Zero) zero refused P = zero ≡ true
IsDivided (Err Wide) zero refused P = (zero ≡ false) × (refused ≡ true)
