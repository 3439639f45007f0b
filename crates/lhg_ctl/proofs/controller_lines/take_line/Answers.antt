use Rattle.std.proofs.Common.{sym, ◌∙◌}
use Rattle.lhg_plant.specs.Views.{plain_plant}
use Rattle.lhg_ctl.specs.Views.{plain_open}
use Rattle.lhg_ctl.proofs.LineSteps.{no_tokens, by_rounds, by_first}
use Rattle.lhg_ctl.proofs.controller_lines.take_line.Goals as goal

pub returns-in-empty-clause-step : goal.returns-in-empty-clause-step
returns-in-empty-clause-step c = no_tokens (plain_plant c.args.plant.now) (plain_open c.args.draft.now) c.args.lines.now.bytes c.args.tokens.now c.in-empty.len_below

pub returns-then-is_word-clause-step : goal.returns-then-is_word-clause-step
returns-then-is_word-clause-step c =
    rw (by_rounds (plain_plant c.args.plant.now) (plain_open c.args.draft.now) c.args.lines.now.bytes c.args.tokens.now c.first-item.result c.in-len1-up.len_at_least c.first-item.is (sym c.is_word.ensures ∙ c.if-is_word.true)) c.take_rounds.ensures.step

pub returns-else-is_word-clause-step : goal.returns-else-is_word-clause-step
returns-else-is_word-clause-step c =
    rw (by_first (plain_plant c.args.plant.now) (plain_open c.args.draft.now) c.args.lines.now.bytes c.args.tokens.now c.first-item.result c.in-len1-up.len_at_least c.first-item.is (sym c.is_word.ensures ∙ c.if-is_word.false)) c.take_by.ensures.step
