use Rattle.std.proofs.Common.{◌≡◌, ◌≤◌, ◌-◌, length, map, drop, Some}
use Rattle.lhg_lex.specs.TextTokens.{plain_of}
use Rattle.lhg_read.specs.Options.{joined}
use Rattle.lhg_read.proofs.ListSteps.{rows_at}
use Rattle.lhg_read.proofs.constraints.read_list.Given as goal

abbrev pub invariant-loop-rows : goal.invariant-loop-rows
invariant-loop-rows l = record {
  within : l.at ≤ length l.tokens;
  few : length l.rows.items ≤ 64;
  left : rows_at l.form l.vars (map (plain_of l.lines.bytes) l.tokens) ≡ joined (Some l.rows.items) (rows_at l.form l.vars (map (plain_of l.lines.bytes) (drop l.at l.tokens)));
}

abbrev pub decreases-loop-rows : goal.decreases-loop-rows
decreases-loop-rows l = length l.tokens - l.at
