use Rattle.std.proofs.Common.{ap, sym, ◌∙◌, codes}
use Rattle.lhg_row_text.specs.PrintedLine.{line}
use Rattle.lhg_row_text.proofs.Appended.{appended_as}
use Rattle.lhg_ctl.specs.NamedLines.{named_line}
use Rattle.lhg_ctl.proofs.DraftLines.{name_at}
use Rattle.lhg_ctl.proofs.draft_printing.push_piece.Goals as goal

pub returns-clause-text : goal.returns-clause-text
returns-clause-text c =
    let vars = c.args.plant.now.vars.items in
    let name = name_at c.args.plant.now.locs.items c.args.place c.index.result.now c.requires.place c.index.ensures ∙ sym c.bytes-name.ensures.same in
    appended_as c.push_line.result c.push_line.new.text.items c.args.text.now.items (line (named_line (codes "piece") c.bytes-name.result.now c.deref.result.now c.args.rows.now)) _ c.push_line.ensures.text
    (ap (λ w. line (named_line (codes "piece") w vars c.args.rows.now)) name ∙ ap (λ vs. line (named_line (codes "piece") c.bytes-name.result.now vs c.args.rows.now)) (sym c.deref.ensures.value))
