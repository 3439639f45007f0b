use Rattle.std.proofs.Common.{◌∙◌}
use Rattle.lhg_lex.proofs.LiteralLemmas.{whole_from, parted_from}
use Rattle.lhg_lex.proofs.literals.literal.Goals as goal

pub whole_number-requires : goal.whole_number-requires
whole_number-requires c = (whole_from c.args.text.now c.digit_run-whole.result c.digit_run-whole.ensures c.requires c.if-whole-text.true).digits

pub returns-then-whole-text : goal.returns-then-whole-text
returns-then-whole-text c = c.whole_number.ensures ∙ (whole_from c.args.text.now c.digit_run-whole.result c.digit_run-whole.ensures c.requires c.if-whole-text.true).value

pub fraction-requires-clause-first : goal.fraction-requires-clause-first
fraction-requires-clause-first c = (parted_from c.args.text.now c.digit_run-whole.result c.digit_run-whole.ensures c.requires c.if-whole-text.false).first

pub fraction-requires-clause-second : goal.fraction-requires-clause-second
fraction-requires-clause-second c = (parted_from c.args.text.now c.digit_run-whole.result c.digit_run-whole.ensures c.requires c.if-whole-text.false).second

pub returns-then-text-whole-eq47 : goal.returns-then-text-whole-eq47
returns-then-text-whole-eq47 c = c.fraction.ensures ∙ (parted_from c.args.text.now c.digit_run-whole.result c.digit_run-whole.ensures c.requires c.if-whole-text.false).fraction c.if-text-whole-eq47.true

pub decimal-requires-clause-first : goal.decimal-requires-clause-first
decimal-requires-clause-first c = (parted_from c.args.text.now c.digit_run-whole.result c.digit_run-whole.ensures c.requires c.if-whole-text.false).first

pub decimal-requires-clause-second : goal.decimal-requires-clause-second
decimal-requires-clause-second c = (parted_from c.args.text.now c.digit_run-whole.result c.digit_run-whole.ensures c.requires c.if-whole-text.false).second

pub returns-else-text-whole-eq47 : goal.returns-else-text-whole-eq47
returns-else-text-whole-eq47 c = c.decimal.ensures ∙ (parted_from c.args.text.now c.digit_run-whole.result c.digit_run-whole.ensures c.requires c.if-whole-text.false).decimal c.if-text-whole-eq47.false
