use Rattle.std.proofs.Common.{sym, ap, ◌∙◌, to_z, of_z}
use Rattle.std.specs.Int.{w128}
use Rattle.std.specs.Prelude.{ℤ}
use Rattle.std.specs.Int.RustNames.{int_lt}
use Rattle.std.proofs.lemmas.Int.{to_z-of_z, fits_signed_from_abs}
use Rattle.lhg_spoil.proofs.NumberSteps.{below-one}
use Rattle.lhg_spoil.proofs.acts.is_below_1.Goals as goal

pub returns : goal.returns
returns c =
    let q = c.args.number.now in
    let top = to_z-of_z w128 c.numer.result (fits_signed_from_abs w128 c.numer.result c.numer.ensures.short) ∙ c.numer.ensures.value in
    let bottom = to_z-of_z w128 c.denom.result (fits_signed_from_abs w128 c.denom.result c.denom.ensures.short) ∙ c.denom.ensures.value in
    ap (λ (v : ℤ). int_lt v (to_z w128 (of_z w128 c.denom.result))) top ∙ ap (λ (v : ℤ). int_lt q.top v) bottom ∙ sym (below-one q)
