use Rattle.lhg_read.specs.DraftView.{plain_draft}
use Rattle.lhg_read.proofs.LineTaken.{no_tokens, by_first}
use Rattle.lhg_read.proofs.plant_lines.take_line.Goals as goal

pub returns-in-empty : goal.returns-in-empty
returns-in-empty c = no_tokens c.args.vars.now (plain_draft c.args.draft.now) c.args.lines.now.bytes c.args.tokens.now c.in-empty.len_below

pub returns-in-len1-up : goal.returns-in-len1-up
returns-in-len1-up c =
    rw (by_first c.args.vars.now (plain_draft c.args.draft.now) c.args.lines.now.bytes c.args.tokens.now c.first-item.result c.in-len1-up.len_at_least c.first-item.is) c.take_by.ensures
