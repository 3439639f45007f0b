use Rattle.std.proofs.Common.{Err, ap}
use Rattle.lhg_cli.proofs.AnswerSteps.{told_for, too_long_for}
use Rattle.lhg_cli.proofs.inputs.answer_input.Goals as goal

pub returns-in-Ok-answer_of-clause-ok : goal.returns-in-Ok-answer_of-clause-ok
returns-in-Ok-answer_of-clause-ok g c = told_for c.args.request c.requires.input _ _ c.in-Ok.bytes.items c.in-Ok-answer_of.found.status c.in-Ok-answer_of.found.text.items c.in-Ok.ensures.whole c.as_slice.ensures.value c.in-Ok-answer_of.ensures

pub returns-in-Ok-too_long-clause-ok : goal.returns-in-Ok-too_long-clause-ok
returns-in-Ok-too_long-clause-ok g c = too_long_for c.args.request c.requires.input _ c.in-Ok-too_long.text.items c.in-Ok-too_long.ensures (c.in-Err-TooLong.ensures.too_long (ap Err c.in-Err-TooLong.field-0-is))
