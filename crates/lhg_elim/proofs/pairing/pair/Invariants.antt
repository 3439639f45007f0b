use Rattle.std.proofs.Common.{drop}
use Rattle.lhg_num.specs.Marked.{IsRest}
use Rattle.lhg_row.specs.Eliminate.{pair_at}
use Rattle.lhg_elim.proofs.pairing.pair.Given as goal

abbrev pub invariant-loop-i : goal.invariant-loop-i
invariant-loop-i g l =
    let a = g.N.Scalar.arithmetic in
    IsRest (pair_at a l.k 0 l.rows) (pair_at a l.k l.i (drop l.i l.rows))
