use Rattle.std.proofs.Common.{take}
use Rattle.lhg_math.specs.Tests.{AllOf}
use Rattle.lhg_union.specs.PolyLists.{ArePolys}
use Rattle.lhg_union.proofs.telling.tell_lists.Given as goal

abbrev pub invariant-loop-pieces : goal.invariant-loop-pieces
invariant-loop-pieces g l = AllOf (λ ps. ArePolys g.N.Scalar.arithmetic ps.items) (take l.pieces-index l.lists)
