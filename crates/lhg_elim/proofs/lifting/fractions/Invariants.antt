use Rattle.std.proofs.Common.{◌≡◌, map, take}
use Rattle.lhg_elim.proofs.lifting.fractions.Given as goal

abbrev pub invariant-loop-number : goal.invariant-loop-number
invariant-loop-number g l = l.out.items ≡ map g.N.Scalar.meaning (take l.number-index l.numbers)
