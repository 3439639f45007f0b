use Rattle.std.proofs.Common.{drop}
use Rattle.lhg_num.specs.Marked.{IsRest}
use Rattle.lhg_row.specs.Trim.{place_along}
use Rattle.lhg_row.proofs.trimming.place_along.Given as goal

abbrev pub invariant-loop-i : goal.invariant-loop-i
invariant-loop-i g l =
    let a = g.N.Scalar.arithmetic in
    IsRest (place_along a l.row 0 l.kept) (place_along a l.row l.i (drop l.i l.kept))
