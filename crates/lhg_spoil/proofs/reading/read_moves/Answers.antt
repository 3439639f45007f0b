use Rattle.std.proofs.Common.{inl, refl}
use Rattle.std.proofs.lemmas.Result.{err_from_is_err_and}
use Rattle.lhg_plant.specs.Views.{plain_plant}
use Rattle.lhg_read.proofs.LexedLines.{lexed_after}
use Rattle.lhg_spoil.specs.OpenViews.{plain_open_moves}
use Rattle.lhg_spoil.proofs.MovesReading.{no_end, line_refused, line_taken, moves_read}
use Rattle.lhg_spoil.proofs.reading.read_moves.Goals as goal

pub loop-read-init : goal.loop-read-init
loop-read-init c = inl (refl, c.new-read.ensures)

pub returns-in_err-line-clause-err : goal.returns-in_err-line-clause-err
returns-in_err-line-clause-err c =
    let p = err_from_is_err_and c.from_residual.result c.from_residual.ensures.1 in
    rw (p.1, p.2) (no_end (plain_plant c.args.plant.now) c.args.lines.now c.loop-read.lines (plain_open_moves c.loop-read.read) c.loop-read.invariant c.loop-read-test.true c.in_err-line.field-0.0 c.in_err-line.ensures.stop)

pub take_line-requires-clause-words : goal.take_line-requires-clause-words
take_line-requires-clause-words c = lexed_after c.loop-read.lines c.in_ok-line.line c.needed_line.new.lines c.in_ok-line.ensures.line c.in_ok-line.ensures.read c.deref.result.now c.deref.ensures.value

pub returns-in-Err-clause-err : goal.returns-in-Err-clause-err
returns-in-Err-clause-err c =
    rw c.stop_at.ensures
    (line_refused (plain_plant c.args.plant.now) c.args.lines.now c.loop-read.lines (plain_open_moves c.loop-read.read) c.loop-read.invariant c.loop-read-test.true c.in_ok-line.line c.needed_line.new.lines
    c.in_ok-line.ensures.line c.in_ok-line.ensures.read c.deref.result.now c.deref.ensures.value c.in-Err.refusal c.in-Err.ensures)

pub loop-read-preserved : goal.loop-read-preserved
loop-read-preserved c =
    line_taken (plain_plant c.args.plant.now) c.args.lines.now c.loop-read.lines (plain_open_moves c.loop-read.read) c.loop-read.invariant c.loop-read-test.true c.in_ok-line.line c.needed_line.new.lines
    c.in_ok-line.ensures.line c.in_ok-line.ensures.read c.deref.result.now c.deref.ensures.value
    (plain_open_moves c.take_line.new.moves) (c.in_default.ensures {u = c.in_default.field-0})

pub returns-clause-ok : goal.returns-clause-ok
returns-clause-ok c = moves_read (plain_plant c.args.plant.now) c.args.lines.now c.loop-read.lines (plain_open_moves c.loop-read.read) c.loop-read.invariant c.loop-read-test.false
