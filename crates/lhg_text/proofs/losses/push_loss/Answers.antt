use Rattle.std.proofs.Common.{List, ◌++◌, ◌∷◌, [], length, sym, ap, ◌∙◌, subst, codes, append_assoc}
use Rattle.std.specs.List.{flat_map}
use Rattle.lhg_row.specs.Width.{AllWide}
use Rattle.lhg_plant.specs.Views.{plain_plant}
use Rattle.lhg_loss.specs.Views.{plain_loss}
use Rattle.lhg_row_text.specs.PrintedLine.{line}
use Rattle.lhg_row_text.specs.RowText.{rows_text}
use Rattle.lhg_row_text.specs.Short.{AllShort}
use Rattle.lhg_ctl.proofs.NamedSteps.{appended_if, grown, written_of}
use Rattle.lhg_text.specs.ReportText.{cause_words, loss_line}
use Rattle.lhg_text.proofs.ReportTexts.{head_words, loss_parts, on_ok_always}
use Rattle.lhg_text.proofs.losses.push_loss.Goals as goal

pub push_rows-requires : goal.push_rows-requires
push_rows-requires c =
    let piece = c.args.loss.now.piece in
    subst (λ vs. AllWide (length vs) c.rows.result.now) (sym c.deref.ensures.value)
    (subst (AllWide (length c.args.plant.now.vars.items)) (sym c.rows.ensures.rows) (subst (λ n. AllWide n piece.lines) c.requires.vars c.rows.ensures.poly.wide))

pub returns-clause-text : goal.returns-clause-text
returns-clause-text c =
    let a = plain_plant c.args.plant.now in
    let loss = plain_loss c.args.loss.now in
    let before = c.args.text.now.items in
    let caused = c.push_cause.new.text.items in
    let spaced = c.extend_from_slice.new.self.items in
    let head = codes "loss" ++ flat_map (λ w. 32 ∷ w) (head_words a loss) in
    let cause = flat_map (λ w. 32 ∷ w) (cause_words a loss.cause) in
    let rows = rows_text a.vars loss.piece in
    let pushed = c.in_ok-push_rows.ensures.text ∙ ap (λ vs. spaced ++ rows_text vs c.rows.result.now) c.deref.ensures.value ∙ ap (λ rs. spaced ++ rows_text a.vars rs) c.rows.ensures.rows
    ∙ ap (λ w. w ++ rows) c.in_ok-extend_from_slice.ensures.items ∙ append_assoc caused (32 ∷ []) rows in
    let whole = grown before c.push_head.new.text.items caused c.push_rows.new.text.items head cause (32 ∷ rows) c.in_ok-push_head.ensures.text c.in_ok-push_cause.ensures.text pushed in
    appended_if c.extend_from_slice-2.result c.extend_from_slice-2.new.self.items c.push_rows.new.text.items before (head ++ (cause ++ 32 ∷ rows)) (10 ∷ []) (line (loss_line a loss)) c.extend_from_slice-2.ensures.items whole (ap line (loss_parts a loss))

pub returns-clause-written : goal.returns-clause-written
returns-clause-written c =
    let n = length c.args.plant.now.vars.items in
    let short = subst AllShort c.rows.ensures.rows c.in_ok-push_rows.ensures.short in
    on_ok_always c.extend_from_slice-2.result (record {
      number = c.in_ok-push_head.ensures.number;
      round = c.in_ok-push_head.ensures.round;
      loc = c.requires.place.loc;
      cause = c.in_ok-push_cause.ensures.written;
      rows = written_of n c.args.loss.now.piece c.rows.ensures.poly c.requires.vars short;
    })
