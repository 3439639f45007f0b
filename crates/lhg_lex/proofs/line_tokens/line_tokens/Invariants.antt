use Rattle.std.proofs.Common.{length, ◌-◌}
use Rattle.lhg_lex.proofs.Scanning.{IsScanned}
use Rattle.lhg_lex.proofs.line_tokens.line_tokens.Given as goal

abbrev pub invariant-loop-at : goal.invariant-loop-at
invariant-loop-at l = IsScanned l.start l.line l.tokens.items l.at

abbrev pub decreases-loop-at : goal.decreases-loop-at
decreases-loop-at l = length l.line - l.at
