use Rattle.std.proofs.Common.{ℕ, ◌<◌, take}
use Rattle.lhg_union.specs.PolyLists.{AllVars, ArePolys}
use Rattle.lhg_union.proofs.MeetSteps.{IsGathering}
use Rattle.lhg_union.proofs.intersections.meet_lists.Given as goal

abbrev pub invariant-loop-p : goal.invariant-loop-p
invariant-loop-p g l = record {
  gathering : (n : ℕ) → AllVars n l.ps → AllVars n l.qs → IsGathering g.N.Scalar.arithmetic n l.ps l.qs l.out.items l.p-index;
  first : ArePolys g.N.Scalar.arithmetic (take l.p-index l.ps);
  second : 0 < l.p-index → ArePolys g.N.Scalar.arithmetic l.qs;
}
