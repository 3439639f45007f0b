use Rattle.std.proofs.lemmas.Result.{err_from_is_err_and}
use Rattle.lhg_plant.specs.Views.{plain_plant, plain_state}
use Rattle.lhg_read.proofs.LexedLines.{lexed_after}
use Rattle.lhg_ctl.specs.LogViews.{plain_open_log}
use Rattle.lhg_ctl.proofs.LogSteps.{nothing, no_start, start_read, no_end, line_refused, line_taken, log_read}
use Rattle.lhg_ctl.proofs.logs.read_log.Goals as goal

pub returns-in_err-line-clause-err : goal.returns-in_err-line-clause-err
returns-in_err-line-clause-err c =
    let p = err_from_is_err_and c.from_residual.result c.from_residual.ensures.1 in
    rw (p.1, p.2) (nothing (plain_plant c.args.plant.now) c.args.plant.now.proper c.args.lines.now c.in_err-line.field-0.0 c.in_err-line.ensures.stop)

pub state_by-requires-clause-words : goal.state_by-requires-clause-words
state_by-requires-clause-words c = lexed_after c.args.lines.now c.in_ok-line.line c.needed_line.new.lines c.in_ok-line.ensures.line c.in_ok-line.ensures.read c.deref.result.now c.deref.ensures.value

pub returns-in-Err-clause-err : goal.returns-in-Err-clause-err
returns-in-Err-clause-err c =
    rw c.stop_at.ensures
    (no_start (plain_plant c.args.plant.now) c.args.plant.now.proper c.args.lines.now c.in_ok-line.line c.needed_line.new.lines c.in_ok-line.ensures.line c.in_ok-line.ensures.read c.deref.result.now c.deref.ensures.value
    c.in-Err.refusal c.in-Err.ensures)

pub loop-log-init : goal.loop-log-init
loop-log-init c =
    start_read (plain_plant c.args.plant.now) c.args.plant.now.proper c.args.lines.now c.in_ok-line.line c.needed_line.new.lines c.in_ok-line.ensures.line c.in_ok-line.ensures.read c.deref.result.now c.deref.ensures.value
    (plain_state c.in-Ok.start) (plain_open_log c.new-log.result) c.in-Ok.ensures c.new-log.ensures

pub returns-in_err-line-2-clause-err : goal.returns-in_err-line-2-clause-err
returns-in_err-line-2-clause-err c =
    let p = err_from_is_err_and c.from_residual-in_err-line-2.result c.from_residual-in_err-line-2.ensures.1 in
    rw (p.1, p.2) (no_end (plain_plant c.args.plant.now) c.args.plant.now.proper c.args.lines.now c.loop-log.lines (plain_open_log c.loop-log.log) c.loop-log.invariant c.loop-log-test.true c.in_err-line-2.field-0.0 c.in_err-line-2.ensures.stop)

pub take_line-requires-clause-words : goal.take_line-requires-clause-words
take_line-requires-clause-words c =
    lexed_after c.loop-log.lines c.in_ok-line-2.line c.needed_line-in-loop-log.new.lines c.in_ok-line-2.ensures.line c.in_ok-line-2.ensures.read c.deref-in-loop-log.result.now c.deref-in-loop-log.ensures.value

pub returns-in-Err-take_line-clause-err : goal.returns-in-Err-take_line-clause-err
returns-in-Err-take_line-clause-err c =
    rw c.stop_at-in-Err-take_line.ensures
    (line_refused (plain_plant c.args.plant.now) c.args.plant.now.proper c.args.lines.now c.loop-log.lines (plain_open_log c.loop-log.log) c.loop-log.invariant c.loop-log-test.true c.in_ok-line-2.line c.needed_line-in-loop-log.new.lines
    c.in_ok-line-2.ensures.line c.in_ok-line-2.ensures.read c.deref-in-loop-log.result.now c.deref-in-loop-log.ensures.value c.in-Err-take_line.refusal c.in-Err-take_line.ensures)

pub loop-log-preserved : goal.loop-log-preserved
loop-log-preserved c =
    line_taken (plain_plant c.args.plant.now) c.args.plant.now.proper c.args.lines.now c.loop-log.lines (plain_open_log c.loop-log.log) c.loop-log.invariant c.loop-log-test.true c.in_ok-line-2.line c.needed_line-in-loop-log.new.lines
    c.in_ok-line-2.ensures.line c.in_ok-line-2.ensures.read c.deref-in-loop-log.result.now c.deref-in-loop-log.ensures.value
    (plain_open_log c.take_line.new.log) (c.in_default.ensures {u = c.in_default.field-0})

pub returns-clause-ok : goal.returns-clause-ok
returns-clause-ok c = log_read (plain_plant c.args.plant.now) c.args.plant.now.proper c.args.lines.now c.loop-log.lines (plain_open_log c.loop-log.log) c.loop-log.invariant c.loop-log-test.false
