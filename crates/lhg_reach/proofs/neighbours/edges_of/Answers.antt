use Rattle.lhg_reach.specs.Neighbours.{IsEdge}
use Rattle.lhg_reach.proofs.Pairs.{with_take}
use Rattle.lhg_reach.proofs.neighbours.edges_of.Goals as goal

pub loop-way-preserved : goal.loop-way-preserved
loop-way-preserved g c =
    with_take (IsEdge g.N.Scalar.arithmetic) c.args.ways.now c.loop-way.way-index c.way-item.result c.way-item.is c.loop-way-test.true c.loop-way.edges.items c.push.new.self.items c.in_ok-edge.edge c.loop-way.invariant c.in_ok-push.ensures.items c.in_ok-edge.ensures.edge
