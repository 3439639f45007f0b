use Rattle.std.proofs.Common.{arith}
use Rattle.lhg_elim.specs.Alike.{IsAlike}
use Rattle.lhg_elim.proofs.WholeSteps.{beside-step, beside-end}
use Rattle.lhg_elim.proofs.lifting.lifted_rows.Goals as goal

pub loop-row-preserved : goal.loop-row-preserved
loop-row-preserved g c =
    beside-step (IsAlike g.N.Scalar.arithmetic) c.args.rows.now c.loop-row.row-index c.row-item.result c.loop-row.out.items c.push.new.self.items c.in_ok-whole.whole c.row-item.is c.loop-row-test.true c.loop-row.invariant
    c.in_ok-push.ensures.items c.in_ok-whole.ensures

pub returns : goal.returns
returns g c = beside-end (IsAlike g.N.Scalar.arithmetic) c.args.rows.now c.loop-row.row-index c.loop-row.out.items (omega arith) c.loop-row.invariant
