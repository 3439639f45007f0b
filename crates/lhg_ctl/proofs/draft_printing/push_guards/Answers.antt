use Rattle.std.proofs.Common.{◌<◌, ◌++◌, ℕ, length, subst, ap, ◌∙◌, arith}
use Rattle.lhg_row.specs.Piece.{PlainPiece}
use Rattle.lhg_plant.specs.Views.{plain_plant}
use Rattle.lhg_plant.specs.Word.{IsName}
use Rattle.lhg_row_text.specs.PrintedLine.{line}
use Rattle.lhg_row_text.specs.Short.{AllShort}
use Rattle.lhg_row_text.proofs.Appended.{stepped}
use Rattle.lhg_ctl.specs.ControllerText.{named_guard_line}
use Rattle.lhg_ctl.proofs.DraftLines.{guards_more, all_more, names_more}
use Rattle.lhg_ctl.proofs.MakingSteps.{line_is, place_below, rows_wide}
use Rattle.lhg_ctl.proofs.draft_printing.push_guards.Goals as goal

pub push_guard-requires-clause-place : goal.push_guard-requires-clause-place
push_guard-requires-clause-place c =
    place_below (length c.args.plant.now.vars.items) (length c.args.plant.now.switches.items) c.args.guards.now c.loop-i.i c.index-guards-i.result c.requires.placed c.loop-i-test.true c.index-guards-i.is

pub push_guard-requires-clause-rows : goal.push_guard-requires-clause-rows
push_guard-requires-clause-rows c =
    rows_wide (length c.args.plant.now.vars.items) (length c.args.plant.now.switches.items) c.args.guards.now c.loop-i.i c.index-guards-i-in-loop-i.result c.requires.placed c.loop-i-test.true c.index-guards-i-in-loop-i.is c.deref.result.now c.deref.ensures.value

pub loop-i-preserved : goal.loop-i-preserved
loop-i-preserved c =
    let a = plain_plant c.args.plant.now in
    let w = c.index-names-i.result in
    let there : c.loop-i.i < length c.args.names.now = let many = c.requires.named in let below = c.loop-i-test.true in omega (arith, many, below) in
    let x = c.index-guards-i.result in
    let y = c.index-guards-i-in-loop-i.result in
    let same = line_is c.args.guards.now c.loop-i.i x y c.deref.result.now c.loop-i-test.true c.index-guards-i.is c.deref.ensures.value in
    record {
      text = stepped _ _ _ _ _ _ (c.in_ok-push_guard.ensures.text ∙ ap (λ (p : ℕ × PlainPiece). c.loop-i.text.items ++ line (named_guard_line a w p)) same) (guards_more a c.args.names.now c.args.guards.now c.loop-i.i w x c.index-names-i.is there c.index-guards-i.is c.loop-i-test.true) c.loop-i.invariant.text;
      short = λ h. c.loop-i.invariant.short (all_more (λ p. AllShort p.1) c.args.guards.now c.loop-i.i x c.index-guards-i.is c.loop-i-test.true (subst AllShort (ap (λ (p : ℕ × PlainPiece). p.1) same) c.in_ok-push_guard.ensures.short) h);
      named = λ h. c.loop-i.invariant.named (names_more IsName c.args.names.now c.loop-i.i w c.index-names-i.is there c.in_ok-push_guard.ensures.name h);
    }
