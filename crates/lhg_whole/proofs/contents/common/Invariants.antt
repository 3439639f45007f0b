use Rattle.lhg_whole.proofs.Steps.{IsContent}
use Rattle.lhg_whole.proofs.contents.common.Given as goal

abbrev pub invariant-loop-i : goal.invariant-loop-i
invariant-loop-i l = IsContent l.row l.i l.g

abbrev pub decreases-loop-i : goal.decreases-loop-i
decreases-loop-i l = l.i
