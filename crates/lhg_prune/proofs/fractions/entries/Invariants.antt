use Rattle.std.proofs.Common.{◌≡◌, ◌++◌, [], map, take}
use Rattle.lhg_prune.proofs.fractions.entries.Given as goal

abbrev pub invariant-loop-x : goal.invariant-loop-x
invariant-loop-x g l = l.out.items ≡ [] ++ map g.N.Scalar.meaning (take l.x-index l.xs)
