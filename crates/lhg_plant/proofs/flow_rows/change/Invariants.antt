use Rattle.std.proofs.Common.{map, drop}
use Rattle.lhg_math.specs.Number.{nought}
use Rattle.lhg_num.specs.Marked.{IsRest}
use Rattle.lhg_plant.specs.LegalTruths.{marked_change}
use Rattle.lhg_plant.proofs.flow_rows.change.Given as goal

abbrev pub invariant-loop-i : goal.invariant-loop-i
invariant-loop-i g l =
    let m = g.N.Scalar.meaning in
    let a = g.N.Scalar.arithmetic in
    IsRest (marked_change a nought (map m l.coefs) (map m l.from) (map m l.to)) (marked_change a (m l.sum) (drop l.i (map m l.coefs)) (drop l.i (map m l.from)) (drop l.i (map m l.to)))
