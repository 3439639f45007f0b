use Rattle.lhg_row.specs.PieceFacts.{IsPoly}
use Rattle.lhg_union.proofs.ListFacts.{all_take}
use Rattle.lhg_union.proofs.MeetSteps.{meeting-step}
use Rattle.lhg_union.proofs.intersections.meet_each.Goals as goal

pub loop-q-preserved : goal.loop-q-preserved
loop-q-preserved g c = record {
  meeting = meeting-step g.N.Scalar.arithmetic c.args.p.now.width c.args.p.now.lines (λ q. q.lines) c.args.qs.now c.loop-q.out.items c.loop-q.q-index c.q-item.result c.q-item.is c.loop-q-test.true c.loop-q.invariant.meeting
      c.meet_one.new.out.items c.in_ok-meet_one.ensures.list c.in_ok-meet_one.ensures.vars;
  polys = all_take (λ p. IsPoly g.N.Scalar.arithmetic p.width p.lines) c.args.qs.now c.loop-q.q-index c.q-item.result c.q-item.is c.loop-q-test.true c.loop-q.invariant.polys c.in_ok-meet_one.ensures.poly;
}
