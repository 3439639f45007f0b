use Rattle.lhg_reach.proofs.Befores.{more-before}
use Rattle.lhg_reach.proofs.openings.rows_before.Goals as goal

pub loop-row-preserved : goal.loop-row-preserved
loop-row-preserved g c = more-before c.args.vars c.args.flow.now c.row-item.result c.args.rows.now c.loop-row.row-index c.row-item.is c.loop-row-test.true c.loop-row.out.items c.push_before.new.out.items c.loop-row.invariant c.in_ok-push_before.ensures.more
