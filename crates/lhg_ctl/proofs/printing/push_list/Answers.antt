use Rattle.std.proofs.Common.{◌≡◌, ◌++◌, length, sym, ap, ◌∙◌, subst}
use Rattle.lhg_row.specs.System.{PlainSystem}
use Rattle.lhg_row.specs.Width.{AllWide}
use Rattle.lhg_union.proofs.ListFacts.{all_at}
use Rattle.lhg_row_text.specs.PrintedLine.{line}
use Rattle.lhg_row_text.specs.Short.{AllShort}
use Rattle.lhg_row_text.proofs.Appended.{stepped}
use Rattle.lhg_ctl.specs.NamedLines.{named_line}
use Rattle.lhg_ctl.proofs.NamedSteps.{list_more, written_more, written_of}
use Rattle.lhg_ctl.proofs.printing.push_list.Goals as goal

pub push_line-requires : goal.push_line-requires
push_line-requires c =
    let piece = c.index-pieces-i.result in
    let width = all_at (λ (p : PlainSystem). p.width ≡ length c.args.vars.now) c.args.pieces.now c.loop-i.i piece c.index-pieces-i.is c.loop-i-test.true c.requires in
    subst (AllWide (length c.args.vars.now)) (sym c.rows.ensures.rows) (subst (λ n. AllWide n piece.lines) width c.rows.ensures.poly.wide)

pub loop-i-preserved : goal.loop-i-preserved
loop-i-preserved c =
    let n = length c.args.vars.now in
    let pieces = c.args.pieces.now in
    let i = c.loop-i.i in
    let piece = c.index-pieces-i.result in
    let f = named_line c.args.word.now c.args.name.now c.args.vars.now in
    let rows = c.rows.ensures.rows in
    let width = all_at (λ (p : PlainSystem). p.width ≡ n) pieces i piece c.index-pieces-i.is c.loop-i-test.true c.requires in
    record {
      text = stepped _ _ _ _ _ _ (c.in_ok-push_line.ensures.text ∙ ap (λ rs. c.loop-i.text.items ++ line (f rs)) rows) (list_more f pieces i piece c.index-pieces-i.is c.loop-i-test.true) c.loop-i.invariant.text;
      written = λ h. c.loop-i.invariant.written (written_more n pieces i piece c.index-pieces-i.is c.loop-i-test.true (written_of n piece c.rows.ensures.poly width (subst AllShort rows c.in_ok-push_line.ensures.short)) h);
    }
