use Rattle.std.proofs.Common.{arith}
use Rattle.lhg_num.specs.AnswerLaws.{wide_on}
use Rattle.lhg_plant.proofs.ChangeSteps.{change-step, change-part}
use Rattle.lhg_plant.proofs.flow_rows.change.Goals as goal

pub loop-i-preserved : goal.loop-i-preserved
loop-i-preserved g c =
    change-step g.N.Scalar.meaning g.N.Scalar.arithmetic c.loop-i.sum c.args.coefs.now c.args.from.now c.args.to.now c.loop-i.i c.index-coefs-i.result c.index-from-i.result c.index-to-i.result c.index-coefs-i.is c.index-from-i.is c.index-to-i.is
    c.loop-i-test.true (omega arith) (omega arith) _ c.loop-i.invariant c.in_ok-sum.sum c.in_ok-sum.ensures

pub returns-in_err-sum : goal.returns-in_err-sum
returns-in_err-sum g c =
    wide_on c.from_residual.result _ g.N.Scalar.meaning _ c.from_residual.ensures.0
    (change-part g.N.Scalar.meaning g.N.Scalar.arithmetic c.loop-i.sum c.args.coefs.now c.args.from.now c.args.to.now c.loop-i.i c.index-coefs-i.result c.index-from-i.result c.index-to-i.result c.index-coefs-i.is c.index-from-i.is c.index-to-i.is
    c.loop-i-test.true (omega arith) (omega arith) _ c.loop-i.invariant)
    c.in_err-sum.ensures
