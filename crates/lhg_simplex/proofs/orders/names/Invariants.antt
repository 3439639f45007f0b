use Rattle.std.proofs.Common.{◌≡◌, vec_len}
use Rattle.lhg_simplex.proofs.orders.names.Given as goal

abbrev pub invariant-loop-i : goal.invariant-loop-i
invariant-loop-i l = vec_len l.out ≡ l.i
