use Rattle.std.proofs.Common.{map, drop}
use Rattle.lhg_num.specs.Marked.{IsRest}
use Rattle.lhg_row.specs.Values.{marked_value}
use Rattle.lhg_row.proofs.values.value_from.Given as goal

abbrev pub invariant-loop-i : goal.invariant-loop-i
invariant-loop-i g l =
    let m = g.N.Scalar.meaning in
    let a = g.N.Scalar.arithmetic in
    IsRest (marked_value a (m l.fn.start) (map m l.coefs) (map m l.at)) (marked_value a (m l.sum) (drop l.i (map m l.coefs)) (drop l.i (map m l.at)))
