use Rattle.std.proofs.Common.{◌∙◌}
use Rattle.lhg_lex.proofs.LiteralValues.{whole_some}
use Rattle.lhg_lex.proofs.literals.whole_number.Goals as goal

pub returns-in-Some : goal.returns-in-Some
returns-in-Some c = c.divided.ensures ∙ whole_some c.in-Some.n c.args.run.now c.in-Some.ensures
