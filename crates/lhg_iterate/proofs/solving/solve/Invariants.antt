use Rattle.lhg_iterate.specs.Stages.{IsAfter}
use Rattle.lhg_iterate.proofs.solving.solve.Given as goal

abbrev pub invariant-loop-rounds : goal.invariant-loop-rounds
invariant-loop-rounds l = IsAfter l.plant l.budget l.rounds l.stage
