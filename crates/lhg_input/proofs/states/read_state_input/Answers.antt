use Rattle.std.proofs.lemmas.Result.{err_from_is_err_and}
use Rattle.lhg_plant.specs.Views.{plain_plant, plain_state}
use Rattle.lhg_input.proofs.Wholes.{refused_before_state, state_refused, state_ends, behind_state}
use Rattle.lhg_input.proofs.states.read_state_input.Goals as goal

pub returns-in_err-plant-clause-err : goal.returns-in_err-plant-clause-err
returns-in_err-plant-clause-err c =
    let p = err_from_is_err_and c.from_residual.result c.from_residual.ensures.1 in
    rw (p.1, p.2) (refused_before_state c.args.bytes.now _ c.new-lines.ensures c.in_err-plant.field-0.0 c.in_err-plant.ensures.err)

pub returns-in_err-state-clause-err : goal.returns-in_err-state-clause-err
returns-in_err-state-clause-err c =
    let p = err_from_is_err_and c.from_residual-in_err-state.result c.from_residual-in_err-state.ensures.1 in
    rw (p.1, p.2) (state_refused c.args.bytes.now _ c.new-lines.ensures (plain_plant c.in_ok-plant.plant) c.read_plant.new.lines c.in_ok-plant.ensures.ok c.in_err-state.field-0.0 c.in_err-state.ensures.err)

pub returns-in_err-finish-clause-err : goal.returns-in_err-finish-clause-err
returns-in_err-finish-clause-err c =
    let p = err_from_is_err_and c.from_residual-in_err-finish.result c.from_residual-in_err-finish.ensures.1 in
    rw (p.1, p.2) (behind_state c.args.bytes.now _ c.new-lines.ensures (plain_plant c.in_ok-plant.plant) c.read_plant.new.lines c.in_ok-plant.ensures.ok (plain_state c.in_ok-state.state) c.read_state.new.lines c.in_ok-state.ensures.ok c.in_err-finish.field-0.0 c.in_err-finish.ensures.err)

pub returns-clause-ok : goal.returns-clause-ok
returns-clause-ok c =
    state_ends c.args.bytes.now _ c.new-lines.ensures (plain_plant c.in_ok-plant.plant) c.read_plant.new.lines c.in_ok-plant.ensures.ok (plain_state c.in_ok-state.state) c.read_state.new.lines c.in_ok-state.ensures.ok c.in_ok-finish.ensures.ok
