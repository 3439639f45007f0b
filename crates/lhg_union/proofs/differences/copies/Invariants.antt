use Rattle.std.proofs.Common.{◌≡◌, take}
use Rattle.lhg_union.specs.PolyLists.{ArePolys}
use Rattle.lhg_union.proofs.differences.copies.Given as goal

abbrev pub invariant-loop-p : goal.invariant-loop-p
invariant-loop-p g l = record { copied : l.out.items ≡ take l.p-index l.ps; polys : ArePolys g.N.Scalar.arithmetic (take l.p-index l.ps) }
