use Rattle.std.proofs.Common.{map, drop}
use Rattle.lhg_num.specs.Marked.{IsRest}
use Rattle.lhg_row.specs.Senses.{seen_as}
use Rattle.lhg_row.specs.Trim.{agree}
use Rattle.lhg_row.proofs.scaling.agree.Given as goal

abbrev pub invariant-loop-i : goal.invariant-loop-i
invariant-loop-i g l =
    let m = g.N.Scalar.meaning in
    let f = λ (cs : _) (ds : _). agree g.N.Scalar.arithmetic (seen_as l.sense) (m l.f) (m l.g) cs ds in
    IsRest (f (map m l.cs) (map m l.ds)) (f (drop l.i (map m l.cs)) (drop l.i (map m l.ds)))
