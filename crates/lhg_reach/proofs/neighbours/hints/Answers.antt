use Rattle.lhg_reach.specs.Neighbours.{IsHint}
use Rattle.lhg_reach.proofs.Pairs.{with_take}
use Rattle.lhg_reach.proofs.neighbours.hints.Goals as goal

pub loop-i-preserved : goal.loop-i-preserved
loop-i-preserved g c =
    with_take (IsHint g.N.Scalar.arithmetic c.args.into.now.width c.args.into.now.lines) c.args.edges.now c.loop-i.i c.index-edges-i.result c.index-edges-i.is c.loop-i-test.true c.loop-i.row.items c.push.new.self.items c.in_ok-hint.hint c.loop-i.invariant c.in_ok-push.ensures.items c.in_ok-hint.ensures.told
