use Rattle.std.proofs.Common.{◌≡◌, map, drop}
use Rattle.lhg_simplex.specs.Mixed.{none_negative}
use Rattle.lhg_simplex.proofs.mixing.none_negative.Given as goal

abbrev pub invariant-loop-m : goal.invariant-loop-m
invariant-loop-m g l =
    let ms = map g.N.Scalar.meaning l.ms in
    none_negative (drop l.m-index ms) ≡ none_negative ms
