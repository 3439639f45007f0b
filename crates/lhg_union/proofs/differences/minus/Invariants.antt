use Rattle.std.proofs.Common.{ℕ, take}
use Rattle.lhg_union.specs.PolyLists.{AllVars, ArePolys}
use Rattle.lhg_union.proofs.MinusSteps.{IsWalking}
use Rattle.lhg_union.proofs.differences.minus.Given as goal

abbrev pub invariant-loop-q : goal.invariant-loop-q
invariant-loop-q g l = record {
  walking : (n : ℕ) → AllVars n l.ps → AllVars n l.qs → IsWalking g.N.Scalar.arithmetic n l.ps l.qs l.left.items l.q-index;
  first : ArePolys g.N.Scalar.arithmetic l.ps;
  second : ArePolys g.N.Scalar.arithmetic (take l.q-index l.qs);
}
