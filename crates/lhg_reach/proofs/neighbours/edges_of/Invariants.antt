use Rattle.std.proofs.Common.{take}
use Rattle.lhg_reach.specs.Neighbours.{EachWith, IsEdge}
use Rattle.lhg_reach.proofs.neighbours.edges_of.Given as goal

abbrev pub invariant-loop-way : goal.invariant-loop-way
invariant-loop-way g l = EachWith (IsEdge g.N.Scalar.arithmetic) (take l.way-index l.ways) l.edges.items
