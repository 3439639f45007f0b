use Rattle.std.proofs.Common.{◌≡◌, ◌≤◌, take}
use Rattle.std.specs.Str.Parse.{digits_value_after}
use Rattle.lhg_lex.specs.Literal.{limit}
use Rattle.lhg_lex.proofs.literals.value_after.Given as goal

abbrev pub invariant-loop-b : goal.invariant-loop-b
invariant-loop-b l = record {
  value : l.n ≡ digits_value_after 10 l.start (take l.b-index l.run);
  within : l.n ≤ limit;
}
