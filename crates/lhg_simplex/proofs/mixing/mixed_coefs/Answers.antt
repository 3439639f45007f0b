use Rattle.std.proofs.Common.{arith}
use Rattle.lhg_row.specs.Column.{coef_at}
use Rattle.lhg_num.specs.AnswerLaws.{wide_on}
use Rattle.lhg_simplex.proofs.MixSteps.{sum-step, sum-part}
use Rattle.lhg_simplex.proofs.mixing.mixed_coefs.Goals as goal

pub loop-i-preserved : goal.loop-i-preserved
loop-i-preserved g c =
    sum-step g.N.Scalar.meaning (coef_at c.args.k) g.N.Scalar.arithmetic c.loop-i.sum c.args.ms.now c.args.rows.now c.loop-i.i c.index-ms-i.result c.index-rows-i.result c.index-ms-i.is c.index-rows-i.is (omega arith) c.loop-i-test.true
    _ c.loop-i.invariant c.coef-x.result c.in_ok-sum.sum c.coef-x.ensures c.in_ok-sum.ensures

pub returns-in_err-sum : goal.returns-in_err-sum
returns-in_err-sum g c =
    wide_on c.from_residual.result _ g.N.Scalar.meaning _ c.from_residual.ensures.0
    (sum-part g.N.Scalar.meaning (coef_at c.args.k) g.N.Scalar.arithmetic c.loop-i.sum c.args.ms.now c.args.rows.now c.loop-i.i c.index-ms-i.result c.index-rows-i.result c.index-ms-i.is c.index-rows-i.is (omega arith) c.loop-i-test.true
    _ c.loop-i.invariant c.coef-x.result c.coef-x.ensures)
    c.in_err-sum.ensures
