use Rattle.std.proofs.Common.{◌++◌, ap, sym, ◌∙◌, codes}
use Rattle.lhg_row_text.specs.PrintedLine.{line}
use Rattle.lhg_row_text.proofs.Appended.{appended}
use Rattle.lhg_ctl.specs.NamedLines.{named_line}
use Rattle.lhg_ctl.proofs.DraftLines.{switch_at}
use Rattle.lhg_ctl.proofs.draft_printing.push_guard.Goals as goal

pub returns-clause-text : goal.returns-clause-text
returns-clause-text c =
    let vars = c.args.plant.now.vars.items in
    let rows = c.args.rows.now in
    let switch = c.bytes-switch.result.now in
    let same = switch_at c.args.plant.now.switches.items c.args.place c.index.result.now c.requires.place c.index.ensures ∙ sym c.bytes-switch.ensures.same in
    appended c.push_line.result c.push_line.new.text.items c.extend_from_slice.new.self.items c.args.text.now.items (codes "guard ") (line (named_line switch c.bytes.result.now c.deref.result.now rows)) _ c.push_line.ensures.text c.in_ok-extend_from_slice.ensures.items
    (ap (λ w. codes "guard " ++ line (named_line w c.args.name.now vars rows)) same
    ∙ ap (λ w. codes "guard " ++ line (named_line switch w vars rows)) (sym c.bytes.ensures.same)
    ∙ ap (λ vs. codes "guard " ++ line (named_line switch c.bytes.result.now vs rows)) (sym c.deref.ensures.value))
