use Rattle.std.proofs.lemmas.Result.{err_from_is_err_and}
use Rattle.lhg_plant.specs.Views.{plain_plant}
use Rattle.lhg_input.proofs.Wholes.{plant_refused, plant_ends, behind_plant}
use Rattle.lhg_input.proofs.plants.read_plant_input.Goals as goal

pub returns-in_err-plant-clause-err : goal.returns-in_err-plant-clause-err
returns-in_err-plant-clause-err c =
    let p = err_from_is_err_and c.from_residual.result c.from_residual.ensures.1 in
    rw (p.1, p.2) (plant_refused c.args.bytes.now _ c.new-lines.ensures c.in_err-plant.field-0.0 c.in_err-plant.ensures.err)

pub returns-in_err-finish-clause-err : goal.returns-in_err-finish-clause-err
returns-in_err-finish-clause-err c =
    let p = err_from_is_err_and c.from_residual-in_err-finish.result c.from_residual-in_err-finish.ensures.1 in
    rw (p.1, p.2) (behind_plant c.args.bytes.now _ c.new-lines.ensures (plain_plant c.in_ok-plant.plant) c.read_plant.new.lines c.in_ok-plant.ensures.ok c.in_err-finish.field-0.0 c.in_err-finish.ensures.err)

pub returns-clause-ok : goal.returns-clause-ok
returns-clause-ok c =
    plant_ends c.args.bytes.now _ c.new-lines.ensures (plain_plant c.in_ok-plant.plant) c.read_plant.new.lines c.in_ok-plant.ensures.ok c.in_ok-finish.ensures.ok
