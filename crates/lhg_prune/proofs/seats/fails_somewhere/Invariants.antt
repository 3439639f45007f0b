use Rattle.lhg_prune.proofs.seats.fails_somewhere.Given as goal

abbrev pub invariant-loop-point : goal.invariant-loop-point
invariant-loop-point l = Unit {0}
