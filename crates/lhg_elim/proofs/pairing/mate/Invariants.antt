use Rattle.std.proofs.Common.{◌+◌, drop}
use Rattle.lhg_num.specs.Marked.{IsRest}
use Rattle.lhg_row.specs.Eliminate.{mate_at, row_at}
use Rattle.lhg_elim.proofs.pairing.mate.Given as goal

abbrev pub invariant-loop-j : goal.invariant-loop-j
invariant-loop-j g l =
    let a = g.N.Scalar.arithmetic in
    let r = row_at l.rows l.i in
    IsRest (mate_at a l.k r (l.i + 1) (drop (l.i + 1) l.rows)) (mate_at a l.k r l.j (drop l.j l.rows))
