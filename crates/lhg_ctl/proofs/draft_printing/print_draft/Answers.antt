use Rattle.std.proofs.Common.{◌++◌, ◌∙◌, map, sym, ap, subst}
use Rattle.std.specs.List.{flat_map}
use Rattle.lhg_math.specs.Tests.{AllOf}
use Rattle.lhg_lex.specs.Lines.{lines_of}
use Rattle.lhg_plant.specs.Views.{plain_plant}
use Rattle.lhg_plant.specs.Word.{IsName}
use Rattle.lhg_row_text.specs.PrintedLine.{line}
use Rattle.lhg_row_text.specs.Short.{AllShort}
use Rattle.lhg_ctl.specs.ControllerGrammar.{IsControllerText}
use Rattle.lhg_ctl.specs.ControllerText.{piece_line, named_guard_lines}
use Rattle.lhg_ctl.specs.Views.{plain_placed, plain_draft}
use Rattle.lhg_ctl.proofs.DraftLines.{second_grown}
use Rattle.lhg_ctl.proofs.SecondTexts.{second_reads}
use Rattle.lhg_ctl.proofs.draft_printing.print_draft.Goals as goal

pub returns-clause-text : goal.returns-clause-text
returns-clause-text c =
    let a = plain_plant c.args.plant.now in
    let d = plain_draft c.args.draft.now in
    let t = c.push_rounds.new.text.items in
    let u = c.push_pieces.new.text.items in
    second_grown a d c.new-text.result.items c.extend_from_slice.new.self.items t u c.push_guards.new.text.items c.extend_from_slice-2.new.self.items
    c.new-text.ensures.items c.in_ok-extend_from_slice.ensures.items c.in_ok-push_rounds.ensures
    (c.in_ok-push_pieces.ensures.text ∙ ap (λ ps. t ++ flat_map line (map (piece_line a) (map plain_placed ps))) c.deref.ensures.value)
    (c.in_ok-push_guards.ensures.text
    ∙ ap (λ ws. u ++ flat_map line (named_guard_lines a ws (map plain_placed c.deref-3.result.now))) c.deref-2.ensures.value
    ∙ ap (λ gs. u ++ flat_map line (named_guard_lines a d.names (map plain_placed gs))) c.deref-3.ensures.value)
    c.in_ok-extend_from_slice-2.ensures.items

pub returns-clause-reads_back : goal.returns-clause-reads_back
returns-clause-reads_back c =
    let a = plain_plant c.args.plant.now in
    let d = plain_draft c.args.draft.now in
    subst (λ bytes. IsControllerText a (lines_of bytes) d) (sym (returns-clause-text c))
    (second_reads a d c.args.plant.now.proper c.requires
    (subst (AllOf IsName) c.deref-2.ensures.value c.in_ok-push_guards.ensures.names)
    (subst (λ ps. AllOf (λ p. AllShort p.1) (map plain_placed ps)) c.deref.ensures.value c.in_ok-push_pieces.ensures.short)
    (subst (λ gs. AllOf (λ g. AllShort g.1) (map plain_placed gs)) c.deref-3.ensures.value c.in_ok-push_guards.ensures.short))
