use Rattle.std.proofs.Common.{arith}
use Rattle.lhg_num.specs.AnswerLaws.{wide_on}
use Rattle.lhg_row.proofs.Steps.{value-step, value-part}
use Rattle.lhg_row.proofs.values.value_from.Goals as goal

pub loop-i-preserved : goal.loop-i-preserved
loop-i-preserved g c =
    value-step g.N.Scalar.meaning g.N.Scalar.arithmetic c.loop-i.sum c.args.coefs.now c.args.at.now c.loop-i.i c.index-coefs-i.result c.index-at-i.result c.index-coefs-i.is c.index-at-i.is c.loop-i-test.true (omega arith)
    _ c.loop-i.invariant c.in_ok-sum.sum c.in_ok-sum.ensures

pub returns-in_err-sum : goal.returns-in_err-sum
returns-in_err-sum g c =
    wide_on c.from_residual.result _ g.N.Scalar.meaning _ c.from_residual.ensures.0
    (value-part g.N.Scalar.meaning g.N.Scalar.arithmetic c.loop-i.sum c.args.coefs.now c.args.at.now c.loop-i.i c.index-coefs-i.result c.index-at-i.result c.index-coefs-i.is c.index-at-i.is c.loop-i-test.true (omega arith)
    _ c.loop-i.invariant)
    c.in_err-sum.ensures
