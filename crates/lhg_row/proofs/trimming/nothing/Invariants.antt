use Rattle.std.proofs.Common.{◌≡◌, map, replicate}
use Rattle.lhg_math.specs.Number.{nought}
use Rattle.lhg_row.proofs.trimming.nothing.Given as goal

abbrev pub invariant-loop : goal.invariant-loop
invariant-loop g l = map g.N.Scalar.meaning l.coefs.items ≡ replicate l.counter nought
