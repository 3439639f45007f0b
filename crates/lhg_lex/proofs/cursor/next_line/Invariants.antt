use Rattle.std.proofs.Common.{length, ◌-◌}
use Rattle.lhg_lex.specs.Reading.{IsAt}
use Rattle.lhg_lex.proofs.ReadingSteps.{IsPassed}
use Rattle.lhg_lex.proofs.cursor.next_line.Given as goal

abbrev pub invariant-loop-place : goal.invariant-loop-place
invariant-loop-place l = record {
  at : IsAt l.bytes l.place l.number;
  passed : IsPassed l.bytes l.read l.number;
}

abbrev pub decreases-loop-place : goal.decreases-loop-place
decreases-loop-place l = length l.bytes - l.place
