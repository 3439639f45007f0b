use Rattle.lhg_whole.proofs.LiftSteps.{IsMultiplied}
use Rattle.lhg_whole.proofs.lifting.multiplied.Given as goal

abbrev pub invariant-loop-entry : goal.invariant-loop-entry
invariant-loop-entry l = IsMultiplied l.row l.factor l.entry-index l.out.items
