use Rattle.std.proofs.Common.{take}
use Rattle.lhg_union.specs.PolyLists.{ArePolys}
use Rattle.lhg_union.proofs.MeetSteps.{IsMeeting}
use Rattle.lhg_union.proofs.intersections.meet_each.Given as goal

abbrev pub invariant-loop-q : goal.invariant-loop-q
invariant-loop-q g l = record {
  meeting : IsMeeting g.N.Scalar.arithmetic l.p.width l.p.lines (λ q. q.lines) l.qs l.out.items l.q-index;
  polys : ArePolys g.N.Scalar.arithmetic (take l.q-index l.qs);
}
