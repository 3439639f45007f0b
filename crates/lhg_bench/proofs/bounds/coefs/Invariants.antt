use Rattle.std.proofs.Common.{◌≡◌, length}
use Rattle.lhg_bench.proofs.bounds.coefs.Given as goal

abbrev pub invariant-loop-i : goal.invariant-loop-i
invariant-loop-i l = length l.out.items ≡ l.i
