use Rattle.std.proofs.Common.{◌≡◌, vec_len}
use Rattle.lhg_simplex.proofs.tests.row.Given as goal

abbrev pub invariant-loop-k : goal.invariant-loop-k
invariant-loop-k l = vec_len l.coefs ≡ l.k
