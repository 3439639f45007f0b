use Rattle.std.proofs.Common.{◌≡◌, map, take}
use Rattle.lhg_elim.proofs.turning.numbers.Given as goal

abbrev pub invariant-loop-fraction : goal.invariant-loop-fraction
invariant-loop-fraction g l = map g.N.Scalar.meaning l.out.items ≡ take l.fraction-index l.fractions
