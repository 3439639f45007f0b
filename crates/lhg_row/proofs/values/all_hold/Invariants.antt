use Rattle.std.proofs.Common.{drop, length}
use Rattle.lhg_num.specs.Marked.{IsRest}
use Rattle.lhg_row.specs.Width.{AllWide}
use Rattle.lhg_row.specs.Truths.{piece_truth}
use Rattle.lhg_row.proofs.values.all_hold.Given as goal

abbrev pub invariant-loop-row : goal.invariant-loop-row
invariant-loop-row g l =
    let a = g.N.Scalar.arithmetic in
    record { left : IsRest (piece_truth a l.rows l.point) (piece_truth a (drop l.row-index l.rows) l.point); wide : AllWide (length l.point) l.rows }
