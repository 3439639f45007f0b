use Rattle.std.proofs.Common.{◌≡◌, map, drop}
use Rattle.lhg_simplex.specs.Mixed.{mixes_strict}
use Rattle.lhg_simplex.proofs.mixing.mixes_strict.Given as goal

abbrev pub invariant-loop-i : goal.invariant-loop-i
invariant-loop-i g l =
    let ms = map g.N.Scalar.meaning l.ms in
    mixes_strict (drop l.i ms) (drop l.i l.rows) ≡ mixes_strict ms l.rows
