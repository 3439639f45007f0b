use Rattle.lhg_row.proofs.GatherSteps.{gather-wide, gather-step}
use Rattle.lhg_row.proofs.trimming.gathered.Goals as goal

pub add-requires : goal.add-requires
add-requires g c =
    gather-wide g.N.Scalar.arithmetic c.args.rows.items c.loop-row.kept.items c.loop-row.row-iterator.rest.items c.in-Some.row c.next.new.self.rest.items c.in-Some.ensures.steps.0 c.loop-row.invariant

pub loop-row-preserved : goal.loop-row-preserved
loop-row-preserved g c =
    gather-step g.N.Scalar.arithmetic c.args.rows.items c.loop-row.kept.items c.loop-row.row-iterator.rest.items c.in-Some.row c.next.new.self.rest.items c.in-Some.ensures.steps.0 c.loop-row.invariant
    c.add.new.kept.items c.in_ok-add.ensures
