use Rattle.std.proofs.Common.{map}
use Rattle.std.proofs.lemmas.Result.{err_from_is_err_and}
use Rattle.lhg_plant.specs.Views.{plain_plant}
use Rattle.lhg_ctl.specs.Views.{plain_placed}
use Rattle.lhg_input.proofs.InitWholes.{refused_before_init, init_refused, init_ends, behind_init}
use Rattle.lhg_input.proofs.inits.read_init_input.Goals as goal

pub returns-in_err-plant-clause-err : goal.returns-in_err-plant-clause-err
returns-in_err-plant-clause-err c =
    let p = err_from_is_err_and c.from_residual.result c.from_residual.ensures.1 in
    rw (p.1, p.2) (refused_before_init c.args.bytes.now _ c.new-lines.ensures c.in_err-plant.field-0.0 c.in_err-plant.ensures.err)

pub returns-in_err-init-clause-err : goal.returns-in_err-init-clause-err
returns-in_err-init-clause-err c =
    let p = err_from_is_err_and c.from_residual-in_err-init.result c.from_residual-in_err-init.ensures.1 in
    rw (p.1, p.2) (init_refused c.args.bytes.now _ c.new-lines.ensures (plain_plant c.in_ok-plant.plant) c.read_plant.new.lines c.in_ok-plant.ensures.ok c.in_err-init.field-0.0 c.in_err-init.ensures.err)

pub returns-in_err-finish-clause-err : goal.returns-in_err-finish-clause-err
returns-in_err-finish-clause-err c =
    let p = err_from_is_err_and c.from_residual-in_err-finish.result c.from_residual-in_err-finish.ensures.1 in
    rw (p.1, p.2) (behind_init c.args.bytes.now _ c.new-lines.ensures (plain_plant c.in_ok-plant.plant) c.read_plant.new.lines c.in_ok-plant.ensures.ok (map plain_placed c.in_ok-init.init.items) c.read_init.new.lines c.in_ok-init.ensures.ok c.in_err-finish.field-0.0 c.in_err-finish.ensures.err)

pub returns-clause-ok : goal.returns-clause-ok
returns-clause-ok c =
    init_ends c.args.bytes.now _ c.new-lines.ensures (plain_plant c.in_ok-plant.plant) c.read_plant.new.lines c.in_ok-plant.ensures.ok (map plain_placed c.in_ok-init.init.items) c.read_init.new.lines c.in_ok-init.ensures.ok c.in_ok-finish.ensures.ok
