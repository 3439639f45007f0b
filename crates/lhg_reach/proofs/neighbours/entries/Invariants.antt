use Rattle.std.proofs.Common.{take}
use Rattle.lhg_reach.specs.Neighbours.{EachWith, IsTold}
use Rattle.lhg_reach.proofs.neighbours.entries.Given as goal

abbrev pub invariant-loop-edge : goal.invariant-loop-edge
invariant-loop-edge g l = EachWith (IsTold g.N.Scalar.arithmetic l.from.width l.from.lines) (take l.edge-index l.edges) l.row.items
