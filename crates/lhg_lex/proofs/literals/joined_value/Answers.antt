use Rattle.std.proofs.Common.{◌∙◌}
use Rattle.lhg_lex.proofs.LiteralValues.{joined_some, joined_none}
use Rattle.lhg_lex.proofs.literals.joined_value.Goals as goal

pub returns-in-Some : goal.returns-in-Some
returns-in-Some c = c.value_after-in-Some.ensures ∙ joined_some c.in-Some.n c.args.first.now c.args.second.now c.in-Some.ensures

pub returns-in-None : goal.returns-in-None
returns-in-None c = joined_none c.args.first.now c.args.second.now c.in-None.ensures
