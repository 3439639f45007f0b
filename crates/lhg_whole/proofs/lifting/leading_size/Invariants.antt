use Rattle.lhg_whole.proofs.LiftSteps.{LeadsFrom}
use Rattle.lhg_whole.proofs.lifting.leading_size.Given as goal

abbrev pub invariant-loop-entry : goal.invariant-loop-entry
invariant-loop-entry l = LeadsFrom l.row l.entry-index
