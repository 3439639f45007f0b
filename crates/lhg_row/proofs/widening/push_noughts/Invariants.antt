use Rattle.std.proofs.Common.{◌≡◌, ◌++◌, map, replicate}
use Rattle.lhg_math.specs.Number.{nought}
use Rattle.lhg_row.proofs.widening.push_noughts.Given as goal

abbrev pub invariant-loop-i : goal.invariant-loop-i
invariant-loop-i g l = map g.N.Scalar.meaning l.out.items ≡ map g.N.Scalar.meaning l.initial.out.items ++ replicate l.i nought
