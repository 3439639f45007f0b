use Rattle.lhg_whole.proofs.LiftSteps.{IsJoined}
use Rattle.lhg_whole.proofs.lifting.denominators.Given as goal

abbrev pub invariant-loop-entry : goal.invariant-loop-entry
invariant-loop-entry l = IsJoined l.row l.entry-index l.m
