use Rattle.std.proofs.Common.{◌+◌, ◌++◌, drop, length}
use Rattle.lhg_num.specs.Marked.{IsRest}
use Rattle.lhg_row.specs.Truths.{piece_truth}
use Rattle.lhg_row.specs.Width.{AllWide}
use Rattle.lhg_plant.proofs.jump_rows.all_hold_across.Given as goal

abbrev pub invariant-loop-row : goal.invariant-loop-row
invariant-loop-row g l =
    let a = g.N.Scalar.arithmetic in
    record { left : IsRest (piece_truth a l.rows (l.old ++ l.new)) (piece_truth a (drop l.row-index l.rows) (l.old ++ l.new)); wide : AllWide (length l.old + length l.new) l.rows }
