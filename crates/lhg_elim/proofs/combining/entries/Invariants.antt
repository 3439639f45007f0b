use Rattle.std.proofs.Common.{map, drop}
use Rattle.lhg_num.specs.MarkedLaws.{IsBuilt}
use Rattle.lhg_row.specs.Combine.{entries}
use Rattle.lhg_elim.proofs.combining.entries.Given as goal

abbrev pub invariant-loop-i : goal.invariant-loop-i
invariant-loop-i g l =
    let m = g.N.Scalar.meaning in
    let e = λ (cs : _) (ds : _). entries g.N.Scalar.arithmetic (m l.f) (m l.g) cs ds in
    IsBuilt (e (map m l.cs) (map m l.ds)) (map m l.out.items) (e (drop l.i (map m l.cs)) (drop l.i (map m l.ds)))
