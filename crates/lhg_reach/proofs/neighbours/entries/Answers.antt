use Rattle.lhg_reach.specs.Neighbours.{IsTold}
use Rattle.lhg_reach.proofs.Pairs.{with_take}
use Rattle.lhg_reach.proofs.neighbours.entries.Goals as goal

pub loop-edge-preserved : goal.loop-edge-preserved
loop-edge-preserved g c =
    with_take (IsTold g.N.Scalar.arithmetic c.args.from.now.width c.args.from.now.lines) c.args.edges.now c.loop-edge.edge-index c.edge-item.result c.edge-item.is c.loop-edge-test.true c.loop-edge.row.items c.push.new.self.items c.in_ok-told.told c.loop-edge.invariant c.in_ok-push.ensures.items c.in_ok-told.ensures.told
