use Rattle.std.proofs.Common.{◌≡◌, ◌∙◌, sym, true, false}
use Rattle.lhg_math.specs.Signs.{is_nought}
use Rattle.lhg_row.proofs.ScaleSteps.{lead-found, lead-passed}
use Rattle.lhg_row.proofs.scaling.lead.Goals as goal

pub returns-then-not-is_zero : goal.returns-then-not-is_zero
returns-then-not-is_zero g c =
    let m = g.N.Scalar.meaning in
    let e : is_nought (m c.coef-item.result) ≡ false = sym c.is_zero.ensures ∙ c.if-not-is_zero.true in
    lead-found m c.args.coefs.now c.loop-coef.coef-index c.coef-item.result c.coef-item.is c.loop-coef-test.true e ∙ c.loop-coef.invariant

pub loop-coef-preserved : goal.loop-coef-preserved
loop-coef-preserved g c =
    let m = g.N.Scalar.meaning in
    let e : is_nought (m c.coef-item.result) ≡ true = sym c.is_zero.ensures ∙ c.if-not-is_zero.false in
    lead-passed m c.args.coefs.now c.loop-coef.coef-index c.coef-item.result c.coef-item.is c.loop-coef-test.true e ∙ c.loop-coef.invariant
