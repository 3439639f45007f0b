use Rattle.std.proofs.Common.{◌-◌, map}
use Rattle.lhg_num.specs.Marked.{IsRest}
use Rattle.lhg_simplex.specs.Mixed.{marked_vanish}
use Rattle.lhg_simplex.proofs.mixing.vanish.Given as goal

abbrev pub invariant-loop-k : goal.invariant-loop-k
invariant-loop-k g l =
    let a = g.N.Scalar.arithmetic in
    let ms = map g.N.Scalar.meaning l.ms in
    IsRest (marked_vanish a 0 l.vars ms l.rows) (marked_vanish a l.k (l.vars - l.k) ms l.rows)
