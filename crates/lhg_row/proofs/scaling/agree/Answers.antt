use Rattle.std.proofs.Common.{arith}
use Rattle.lhg_num.specs.AnswerLaws.{wide_on}
use Rattle.lhg_row.specs.Senses.{seen_as}
use Rattle.lhg_row.proofs.ScaleSteps.{agree-part, agree-stop, agree-on}
use Rattle.lhg_row.proofs.scaling.agree.Goals as goal

pub returns-in_err-same : goal.returns-in_err-same
returns-in_err-same g c =
    let m = g.N.Scalar.meaning in
    wide_on c.from_residual.result _ (λ b. b) _ c.from_residual.ensures.0
    (agree-part m g.N.Scalar.arithmetic (seen_as c.args.sense) (m c.args.f.now) (m c.args.g.now) c.args.cs.now c.args.ds.now c.loop-i.i c.index-cs-i.result c.index-ds-i.result c.index-cs-i.is c.index-ds-i.is c.loop-i-test.true (omega arith)
    _ c.loop-i.invariant)
    c.in_err-same.ensures

pub returns-then-not-same : goal.returns-then-not-same
returns-then-not-same g c =
    let m = g.N.Scalar.meaning in
    agree-stop m g.N.Scalar.arithmetic (seen_as c.args.sense) (m c.args.f.now) (m c.args.g.now) c.args.cs.now c.args.ds.now c.loop-i.i c.index-cs-i.result c.index-ds-i.result c.index-cs-i.is c.index-ds-i.is c.loop-i-test.true (omega arith)
    _ c.loop-i.invariant c.in_ok-same.same c.in_ok-same.ensures c.if-not-same.true

pub loop-i-preserved : goal.loop-i-preserved
loop-i-preserved g c =
    let m = g.N.Scalar.meaning in
    agree-on m g.N.Scalar.arithmetic (seen_as c.args.sense) (m c.args.f.now) (m c.args.g.now) c.args.cs.now c.args.ds.now c.loop-i.i c.index-cs-i.result c.index-ds-i.result c.index-cs-i.is c.index-ds-i.is c.loop-i-test.true (omega arith)
    _ c.loop-i.invariant c.in_ok-same.same c.in_ok-same.ensures c.if-not-same.false
