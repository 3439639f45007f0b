use Rattle.std.proofs.Common.{◌<◌, length, arith, rules}
use Rattle.std.specs.Prelude.{◌^◌}
use Rattle.std.proofs.lemmas.List.{length-map}
use Rattle.std.proofs.lemmas.Result.{err_from_is_err_and}
use Rattle.lhg_plant.specs.Views.{plain_plant}
use Rattle.lhg_read.proofs.LexedLines.{lexed_after}
use Rattle.lhg_ctl.specs.Views.{plain_open, plain_placed}
use Rattle.lhg_ctl.proofs.ReadingSteps.{nothing, no_head, head_read, no_end, line_refused, line_taken, controller_read, text_read}
use Rattle.lhg_ctl.proofs.GivenDrafts.{given_draft}
use Rattle.lhg_ctl.proofs.reading.read_controller.Goals as goal

pub returns-in_err-line-clause-err : goal.returns-in_err-line-clause-err
returns-in_err-line-clause-err c =
    let p = err_from_is_err_and c.from_residual.result c.from_residual.ensures.1 in
    rw (p.1, p.2) (nothing (plain_plant c.args.plant.now) c.args.lines.now c.in_err-line.field-0.0 c.in_err-line.ensures.stop)

pub returns-in_default-clause-err : goal.returns-in_default-clause-err
returns-in_default-clause-err c =
    rw c.stop_at.ensures
    (no_head (plain_plant c.args.plant.now) c.args.lines.now c.in_ok-line.line c.needed_line.new.lines c.in_ok-line.ensures.line c.in_ok-line.ensures.read c.deref.result.now c.deref.ensures.value
    c.version_of.result c.version_of.ensures c.in_default.is)

pub loop-draft-init : goal.loop-draft-init
loop-draft-init c = record {
  between =
      head_read (plain_plant c.args.plant.now) c.args.lines.now c.in_ok-line.line c.needed_line.new.lines c.in_ok-line.ensures.line c.in_ok-line.ensures.read c.deref.result.now c.deref.ensures.value
      c.version_of.result c.in-Some.version (plain_open c.in_ok-draft.draft) c.version_of.ensures c.in-Some.is c.in_ok-draft.ensures.open;
  counted = c.in_ok-draft.ensures.counted;
}

pub returns-in_err-line-2-clause-err : goal.returns-in_err-line-2-clause-err
returns-in_err-line-2-clause-err c =
    let p = err_from_is_err_and c.from_residual-in_err-line-2.result c.from_residual-in_err-line-2.ensures.1 in
    rw (p.1, p.2) (no_end (plain_plant c.args.plant.now) c.args.lines.now c.loop-draft.lines (plain_open c.loop-draft.draft) c.loop-draft.invariant.between c.loop-draft-test.true c.in_err-line-2.field-0.0 c.in_err-line-2.ensures.stop)

pub take_line-requires-clause-words : goal.take_line-requires-clause-words
take_line-requires-clause-words c =
    lexed_after c.loop-draft.lines c.in_ok-line-2.line c.needed_line-in-loop-draft.new.lines c.in_ok-line-2.ensures.line c.in_ok-line-2.ensures.read c.deref-in-loop-draft.result.now c.deref-in-loop-draft.ensures.value

pub returns-in-Err-clause-err : goal.returns-in-Err-clause-err
returns-in-Err-clause-err c =
    rw c.stop_at-in-Err.ensures
    (line_refused (plain_plant c.args.plant.now) c.args.lines.now c.loop-draft.lines (plain_open c.loop-draft.draft) c.loop-draft.invariant.between c.loop-draft-test.true c.in_ok-line-2.line c.needed_line-in-loop-draft.new.lines
    c.in_ok-line-2.ensures.line c.in_ok-line-2.ensures.read c.deref-in-loop-draft.result.now c.deref-in-loop-draft.ensures.value c.in-Err.refusal c.in-Err.ensures.step)

pub loop-draft-preserved : goal.loop-draft-preserved
loop-draft-preserved c = record {
  between =
      line_taken (plain_plant c.args.plant.now) c.args.lines.now c.loop-draft.lines (plain_open c.loop-draft.draft) c.loop-draft.invariant.between c.loop-draft-test.true c.in_ok-line-2.line c.needed_line-in-loop-draft.new.lines
      c.in_ok-line-2.ensures.line c.in_ok-line-2.ensures.read c.deref-in-loop-draft.result.now c.deref-in-loop-draft.ensures.value
      (plain_open c.take_line.new.draft) (c.in_default-take_line.ensures {u = c.in_default-take_line.field-0}).step;
  counted = (c.in_default-take_line.ensures {u = c.in_default-take_line.field-0}).counted;
}

pub returns-clause-ok : goal.returns-clause-ok
returns-clause-ok c = text_read (plain_plant c.args.plant.now) c.args.lines.now c.loop-draft.lines (plain_open c.loop-draft.draft) c.loop-draft.invariant.between c.loop-draft-test.false

pub returns-clause-given : goal.returns-clause-given
returns-clause-given c =
    let p = plain_plant c.args.plant.now in
    let o = plain_open c.loop-draft.draft in
    let size = length-map c.loop-draft.draft.draft.guards.items plain_placed in
    let fits : length c.loop-draft.draft.draft.guards.items < 2 ^ 64 = search rules in
    given_draft p c.args.plant.now.proper c.loop-draft.invariant.between.0 o.draft (controller_read p c.args.lines.now c.loop-draft.lines o c.loop-draft.invariant.between c.loop-draft-test.false) (omega (arith, size, fits))
