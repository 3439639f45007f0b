use Rattle.std.proofs.Common.{arith}
use Rattle.lhg_elim.specs.Turned.{IsTurned}
use Rattle.lhg_elim.proofs.WholeSteps.{beside-step, beside-end}
use Rattle.lhg_elim.proofs.turning.turned_rows.Goals as goal

pub loop-row-preserved : goal.loop-row-preserved
loop-row-preserved g c =
    beside-step (IsTurned g.N.Scalar.arithmetic) c.args.rows.now c.loop-row.row-index c.row-item.result c.loop-row.out.items c.push.new.self.items c.in_ok-back.back c.row-item.is c.loop-row-test.true c.loop-row.invariant
    c.in_ok-push.ensures.items c.in_ok-back.ensures

pub returns : goal.returns
returns g c = beside-end (IsTurned g.N.Scalar.arithmetic) c.args.rows.now c.loop-row.row-index c.loop-row.out.items (omega arith) c.loop-row.invariant
