use Rattle.std.proofs.lemmas.Result.{err_from_is_err_and}
use Rattle.lhg_plant.specs.Views.{plain_plant, plain_state}
use Rattle.lhg_read.proofs.LexedLines.{lexed_after}
use Rattle.lhg_read.proofs.StateLines.{some_state}
use Rattle.lhg_read.proofs.StateReading.{no_line, not_state, state_read}
use Rattle.lhg_read.proofs.states.read_state.Goals as goal

pub returns-in_err-line-clause-err : goal.returns-in_err-line-clause-err
returns-in_err-line-clause-err c =
    let p = err_from_is_err_and c.from_residual.result c.from_residual.ensures.1 in
    let plant = plain_plant c.args.plant.now in
    rw (p.1, p.2) (no_line plant (some_state plant c.args.plant.now.proper) c.args.lines.now c.in_err-line.field-0.0 c.in_err-line.ensures.stop)

pub state_by-requires-clause-words : goal.state_by-requires-clause-words
state_by-requires-clause-words c = lexed_after c.args.lines.now c.in_ok-line.line c.needed_line.new.lines c.in_ok-line.ensures.line c.in_ok-line.ensures.read c.deref.result.now c.deref.ensures.value

pub returns-in-Ok-clause-ok : goal.returns-in-Ok-clause-ok
returns-in-Ok-clause-ok c =
    state_read (plain_plant c.args.plant.now) c.args.lines.now c.in_ok-line.line c.needed_line.new.lines c.in_ok-line.ensures.line c.in_ok-line.ensures.read c.deref.result.now c.deref.ensures.value
    (plain_state c.in-Ok.state) c.in-Ok.ensures

pub returns-clause-err : goal.returns-clause-err
returns-clause-err c =
    let plant = plain_plant c.args.plant.now in
    rw c.stop_at.ensures
    (not_state plant (some_state plant c.args.plant.now.proper) c.args.lines.now c.in_ok-line.line c.needed_line.new.lines c.in_ok-line.ensures.line c.in_ok-line.ensures.read c.deref.result.now c.deref.ensures.value
    c.in-Err.refusal c.in-Err.ensures)
