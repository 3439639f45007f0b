use Rattle.std.proofs.Common.{◌≡◌, ◌≤◌, [], length, map, drop, true}
use Rattle.lhg_lex.specs.TextTokens.{plain_of}
use Rattle.lhg_plant.specs.Differ.{all_differ}
use Rattle.lhg_plant.specs.Limits.{most_variables}
use Rattle.lhg_read.proofs.VariableSteps.{further}
use Rattle.lhg_read.proofs.names.read_variables.Given as goal

abbrev pub invariant-loop-token : goal.invariant-loop-token
invariant-loop-token l = record {
  few : length l.vars.items ≤ most_variables;
  differ : all_differ l.vars.items ≡ true;
  left : further [] (map (plain_of l.lines.bytes) l.tokens) ≡ further l.vars.items (map (plain_of l.lines.bytes) (drop l.token-index l.tokens));
}
