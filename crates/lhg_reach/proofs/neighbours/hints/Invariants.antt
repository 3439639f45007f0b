use Rattle.std.proofs.Common.{take}
use Rattle.lhg_reach.specs.Neighbours.{EachWith, IsHint}
use Rattle.lhg_reach.proofs.neighbours.hints.Given as goal

abbrev pub invariant-loop-i : goal.invariant-loop-i
invariant-loop-i g l = EachWith (IsHint g.N.Scalar.arithmetic l.into.width l.into.lines) (take l.i l.edges) l.row.items
