use Rattle.std.proofs.lemmas.Result.{err_from_is_err_and}
use Rattle.lhg_plant.specs.Views.{plain_plant, plain_state}
use Rattle.lhg_spoil.specs.Views.{plain_ctl_moves}
use Rattle.lhg_input.proofs.MovesWholes.{refused_before_moves, state_refused_before_moves, moves_refused, moves_end, behind_moves}
use Rattle.lhg_input.proofs.spoils.read_spoil_input.Goals as goal

pub returns-in_err-plant-clause-err : goal.returns-in_err-plant-clause-err
returns-in_err-plant-clause-err c =
    let p = err_from_is_err_and c.from_residual.result c.from_residual.ensures.1 in
    rw (p.1, p.2) (refused_before_moves c.args.bytes.now _ c.new-lines.ensures c.in_err-plant.field-0.0 c.in_err-plant.ensures.err)

pub returns-in_err-start-clause-err : goal.returns-in_err-start-clause-err
returns-in_err-start-clause-err c =
    let p = err_from_is_err_and c.from_residual-in_err-start.result c.from_residual-in_err-start.ensures.1 in
    rw (p.1, p.2) (state_refused_before_moves c.args.bytes.now _ c.new-lines.ensures (plain_plant c.in_ok-plant.plant) c.read_plant.new.lines c.in_ok-plant.ensures.ok c.in_err-start.field-0.0 c.in_err-start.ensures.err)

pub returns-in_err-moves-clause-err : goal.returns-in_err-moves-clause-err
returns-in_err-moves-clause-err c =
    let p = err_from_is_err_and c.from_residual-in_err-moves.result c.from_residual-in_err-moves.ensures.1 in
    rw (p.1, p.2) (moves_refused c.args.bytes.now _ c.new-lines.ensures (plain_plant c.in_ok-plant.plant) c.read_plant.new.lines c.in_ok-plant.ensures.ok (plain_state c.in_ok-start.start) c.read_state.new.lines c.in_ok-start.ensures.ok c.in_err-moves.field-0.0 c.in_err-moves.ensures.err)

pub returns-in_err-finish-clause-err : goal.returns-in_err-finish-clause-err
returns-in_err-finish-clause-err c =
    let p = err_from_is_err_and c.from_residual-in_err-finish.result c.from_residual-in_err-finish.ensures.1 in
    rw (p.1, p.2) (behind_moves c.args.bytes.now _ c.new-lines.ensures (plain_plant c.in_ok-plant.plant) c.read_plant.new.lines c.in_ok-plant.ensures.ok (plain_state c.in_ok-start.start) c.read_state.new.lines c.in_ok-start.ensures.ok
    (plain_ctl_moves c.in_ok-moves.moves.items) c.read_moves.new.lines c.in_ok-moves.ensures.ok c.in_err-finish.field-0.0 c.in_err-finish.ensures.err)

pub returns-clause-ok : goal.returns-clause-ok
returns-clause-ok c =
    moves_end c.args.bytes.now _ c.new-lines.ensures (plain_plant c.in_ok-plant.plant) c.read_plant.new.lines c.in_ok-plant.ensures.ok (plain_state c.in_ok-start.start) c.read_state.new.lines c.in_ok-start.ensures.ok
    (plain_ctl_moves c.in_ok-moves.moves.items) c.read_moves.new.lines c.in_ok-moves.ensures.ok c.in_ok-finish.ensures.ok
