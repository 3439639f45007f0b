use Rattle.std.proofs.Common.{drop}
use Rattle.lhg_num.specs.Marked.{walk, IsRest}
use Rattle.lhg_row.specs.Sample.{tightened, tightest}
use Rattle.lhg_sample.specs.Sides.{bounds_from, tighter_from}
use Rattle.lhg_simplex.specs.BoundView.{plain_bounds}
use Rattle.lhg_sample.proofs.points.tightest.Given as goal

abbrev pub invariant-loop-row : goal.invariant-loop-row
invariant-loop-row l =
    let pick = tighter_from l.side in
    let from = bounds_from l.side l.j in
    IsRest (tightest pick from l.j l.at l.rows) (walk (tightened pick from l.j l.at) (plain_bounds l.kept) (drop l.row-index l.rows))
