use Rattle.lhg_num.specs.FracArithmetic.{frac_arithmetic}
use Rattle.lhg_union.proofs.MeetSteps.{IsMeeting}
use Rattle.lhg_jump.proofs.SafeSteps.{rows_in}
use Rattle.lhg_jump.proofs.safe.safe_lines.Given as goal

abbrev pub invariant-loop-line : goal.invariant-loop-line
invariant-loop-line l = IsMeeting frac_arithmetic l.vars l.location.inv.items rows_in l.line-items l.pieces.items l.line-index
