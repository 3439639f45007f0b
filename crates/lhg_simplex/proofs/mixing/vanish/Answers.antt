use Rattle.std.proofs.Common.{◌∙◌, sym, map}
use Rattle.lhg_num.specs.AnswerLaws.{wide_on}
use Rattle.lhg_simplex.proofs.MixSteps.{vanish-part, vanish-stop, vanish-on}
use Rattle.lhg_simplex.proofs.mixing.vanish.Goals as goal

pub returns-in_err-sum : goal.returns-in_err-sum
returns-in_err-sum g c =
    let m = g.N.Scalar.meaning in
    wide_on c.from_residual.result _ (λ b. b) _ c.from_residual.ensures.0
    (vanish-part g.N.Scalar.arithmetic c.args.vars c.loop-k.k (map m c.args.ms.now) c.args.rows.now c.loop-k-test.true _ c.loop-k.invariant)
    c.in_err-sum.ensures

pub returns-then-not-is_zero : goal.returns-then-not-is_zero
returns-then-not-is_zero g c =
    let m = g.N.Scalar.meaning in
    vanish-stop g.N.Scalar.arithmetic c.args.vars c.loop-k.k (map m c.args.ms.now) c.args.rows.now c.loop-k-test.true _ c.loop-k.invariant
    (m c.in_ok-sum.sum) c.in_ok-sum.ensures (sym c.is_zero.ensures ∙ c.if-not-is_zero.true)

pub loop-k-preserved : goal.loop-k-preserved
loop-k-preserved g c =
    let m = g.N.Scalar.meaning in
    vanish-on g.N.Scalar.arithmetic c.args.vars c.loop-k.k (map m c.args.ms.now) c.args.rows.now c.loop-k-test.true _ c.loop-k.invariant
    (m c.in_ok-sum.sum) c.in_ok-sum.ensures (sym c.is_zero.ensures ∙ c.if-not-is_zero.false)
