use Rattle.std.proofs.Common.{take}
use Rattle.lhg_union.specs.PolyLists.{ArePolys}
use Rattle.lhg_union.proofs.telling.tell_pieces.Given as goal

abbrev pub invariant-loop-piece : goal.invariant-loop-piece
invariant-loop-piece g l = ArePolys g.N.Scalar.arithmetic (take l.piece-index l.pieces)
