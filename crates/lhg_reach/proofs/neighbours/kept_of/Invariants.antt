use Rattle.std.proofs.Common.{take}
use Rattle.lhg_reach.specs.Neighbours.{EachWith, AreEntries}
use Rattle.lhg_reach.proofs.neighbours.kept_of.Given as goal

abbrev pub invariant-loop-from : goal.invariant-loop-from
invariant-loop-from g l = EachWith (AreEntries g.N.Scalar.arithmetic l.ways) (take l.from-index l.near) l.table.items
