use Rattle.std.proofs.Common.{◌++◌, ℕ, length, subst, ap, ◌∙◌}
use Rattle.lhg_row.specs.Piece.{PlainPiece}
use Rattle.lhg_plant.specs.Views.{plain_plant}
use Rattle.lhg_row_text.specs.PrintedLine.{line}
use Rattle.lhg_row_text.specs.Short.{AllShort}
use Rattle.lhg_row_text.proofs.Appended.{stepped}
use Rattle.lhg_ctl.specs.ControllerText.{piece_line}
use Rattle.lhg_ctl.proofs.DraftLines.{placed_more, all_more}
use Rattle.lhg_ctl.proofs.MakingSteps.{line_is, place_below, rows_wide}
use Rattle.lhg_ctl.proofs.draft_printing.push_pieces.Goals as goal

pub push_piece-requires-clause-place : goal.push_piece-requires-clause-place
push_piece-requires-clause-place c =
    place_below (length c.args.plant.now.vars.items) (length c.args.plant.now.locs.items) c.args.pieces.now c.loop-i.i c.index-pieces-i.result c.requires c.loop-i-test.true c.index-pieces-i.is

pub push_piece-requires-clause-rows : goal.push_piece-requires-clause-rows
push_piece-requires-clause-rows c =
    rows_wide (length c.args.plant.now.vars.items) (length c.args.plant.now.locs.items) c.args.pieces.now c.loop-i.i c.index-pieces-i-in-loop-i.result c.requires c.loop-i-test.true c.index-pieces-i-in-loop-i.is c.deref.result.now c.deref.ensures.value

pub loop-i-preserved : goal.loop-i-preserved
loop-i-preserved c =
    let a = plain_plant c.args.plant.now in
    let x = c.index-pieces-i.result in
    let y = c.index-pieces-i-in-loop-i.result in
    let same = line_is c.args.pieces.now c.loop-i.i x y c.deref.result.now c.loop-i-test.true c.index-pieces-i.is c.deref.ensures.value in
    record {
      text = stepped _ _ _ _ _ _ (c.in_ok-push_piece.ensures.text ∙ ap (λ (p : ℕ × PlainPiece). c.loop-i.text.items ++ line (piece_line a p)) same) (placed_more (piece_line a) c.args.pieces.now c.loop-i.i x c.index-pieces-i.is c.loop-i-test.true) c.loop-i.invariant.text;
      short = λ h. c.loop-i.invariant.short (all_more (λ p. AllShort p.1) c.args.pieces.now c.loop-i.i x c.index-pieces-i.is c.loop-i-test.true (subst AllShort (ap (λ (p : ℕ × PlainPiece). p.1) same) c.in_ok-push_piece.ensures.short) h);
    }
