use Rattle.std.proofs.Common.{drop}
use Rattle.lhg_num.specs.Marked.{IsRest}
use Rattle.lhg_row.specs.Pieces.{includes}
use Rattle.lhg_poly.proofs.entailing.all_entailed.Given as goal

abbrev pub invariant-loop-row : goal.invariant-loop-row
invariant-loop-row g l =
    let a = g.N.Scalar.arithmetic in
    IsRest (includes a l.vars l.asked l.rows) (includes a l.vars (drop l.row-index l.asked) l.rows)
