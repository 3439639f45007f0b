use Rattle.std.proofs.Common.{◌∙◌, arith, length}
use Rattle.lhg_lex.proofs.LiteralValues.{ten, decimal_some, decimal_small, lost}
use Rattle.lhg_lex.proofs.literals.decimal.Goals as goal

pub pow-requires : goal.pow-requires
pow-requires c = omega (arith, (ten (length c.args.second.now) c.if-second-gt-DECIMAL_DIGITS.false).0)

pub divided-requires-clause-bottom : goal.divided-requires-clause-bottom
divided-requires-clause-bottom c = omega (arith, (ten (length c.args.second.now) c.if-second-gt-DECIMAL_DIGITS.false).0, c.pow.ensures)

pub returns-in-Some : goal.returns-in-Some
returns-in-Some c = c.divided.ensures ∙ decimal_some c.in-Some.n c.pow.result c.args.first.now c.args.second.now (omega arith) c.in-Some.ensures c.pow.ensures

pub returns-in-None : goal.returns-in-None
returns-in-None c =
    let small = decimal_small c.args.first.now c.args.second.now c.requires.first c.requires.second (omega arith) in
    let long = lost _ c.in-None.ensures in
    absurd (omega arith)
