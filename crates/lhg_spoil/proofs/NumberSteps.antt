-- Whether a number is below 1 is seen by its numerator and denominator.
use Rattle.std.proofs.Common.{◌≡◌, ap, ◌∙◌, arith}
use Rattle.std.specs.Prelude.{pos, ◌*ℤ◌, ℤ}
use Rattle.std.specs.Int.RustNames.{int_lt}
use Rattle.std.proofs.lemmas.Int.{ints}
use Rattle.lhg_math.specs.Number.{Number, lt, unit}
use Rattle.lhg_math.specs.NumberOrder.{rep_lt}
use Rattle.lhg_math.specs.Represents.{rep_self, rep_unit}

-- by cross multiplication with 1 over 1
pub below-one : (q : Number) → lt q unit ≡ int_lt q.top (pos q.bottom)
below-one q =
    let left : q.top *ℤ pos 1 ≡ q.top = omega (arith, ints) in
    let right : pos 1 *ℤ pos q.bottom ≡ pos q.bottom = omega (arith, ints) in
    rep_lt (rep_self q) rep_unit ∙ ap (λ (v : ℤ). int_lt v (pos 1 *ℤ pos q.bottom)) left ∙ ap (λ (v : ℤ). int_lt q.top v) right
