use Rattle.std.proofs.Common.{map, drop}
use Rattle.lhg_num.specs.Marked.{IsRest}
use Rattle.lhg_row.specs.Column.{coef_at}
use Rattle.lhg_row.specs.Values.{marked_value}
use Rattle.lhg_simplex.specs.Mixed.{marked_mixed}
use Rattle.lhg_simplex.proofs.mixing.mixed_coefs.Given as goal

abbrev pub invariant-loop-i : goal.invariant-loop-i
invariant-loop-i g l =
    let m = g.N.Scalar.meaning in
    let a = g.N.Scalar.arithmetic in
    IsRest (marked_mixed a (coef_at l.k) (map m l.ms) l.rows) (marked_value a (m l.sum) (drop l.i (map m l.ms)) (drop l.i (map (coef_at l.k) l.rows)))
