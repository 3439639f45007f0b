use Rattle.lhg_row.specs.Sample.{tightened, tightest}
use Rattle.lhg_sample.specs.Sides.{bounds_from, tighter_from}
use Rattle.lhg_simplex.specs.BoundView.{plain_bounds}
use Rattle.lhg_sample.proofs.PointSteps.{walked-step}
use Rattle.lhg_sample.proofs.points.tightest.Goals as goal

pub loop-row-preserved : goal.loop-row-preserved
loop-row-preserved c =
    let pick = tighter_from c.args.side in
    let from = bounds_from c.args.side c.args.j in
    walked-step (tightened pick from c.args.j c.args.at.now) c.args.rows.now (plain_bounds c.loop-row.kept) c.loop-row.row-index c.row-item.result c.row-item.is c.loop-row-test.true (tightest pick from c.args.j c.args.at.now c.args.rows.now) c.loop-row.invariant
    (plain_bounds c.in_ok-kept.kept) c.in_ok-kept.ensures
