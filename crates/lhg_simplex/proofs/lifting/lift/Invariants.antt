use Rattle.std.proofs.Common.{◌≡◌}
use Rattle.lhg_simplex.proofs.lifting.lift.Given as goal

abbrev pub invariant-loop-j : goal.invariant-loop-j
invariant-loop-j g l = record { tall : l.table.tall ≡ l.fn.table.tall; wide : l.table.wide ≡ l.fn.table.wide }
