use Rattle.std.proofs.lemmas.Result.{err_from_is_err_and}
use Rattle.lhg_plant.specs.Views.{plain_plant}
use Rattle.lhg_ctl.specs.LogViews.{plain_log}
use Rattle.lhg_ctl.specs.Views.{plain_draft}
use Rattle.lhg_input.proofs.Wholes.{refused_before_log, controller_refused_before_log, log_refused, log_ends, behind_log}
use Rattle.lhg_input.proofs.logs.read_log_input.Goals as goal

pub returns-in_err-plant-clause-err : goal.returns-in_err-plant-clause-err
returns-in_err-plant-clause-err c =
    let p = err_from_is_err_and c.from_residual.result c.from_residual.ensures.1 in
    rw (p.1, p.2) (refused_before_log c.args.bytes.now _ c.new-lines.ensures c.in_err-plant.field-0.0 c.in_err-plant.ensures.err)

pub returns-in_err-draft-clause-err : goal.returns-in_err-draft-clause-err
returns-in_err-draft-clause-err c =
    let p = err_from_is_err_and c.from_residual-in_err-draft.result c.from_residual-in_err-draft.ensures.1 in
    rw (p.1, p.2) (controller_refused_before_log c.args.bytes.now _ c.new-lines.ensures (plain_plant c.in_ok-plant.plant) c.read_plant.new.lines c.in_ok-plant.ensures.ok c.in_err-draft.field-0.0 c.in_err-draft.ensures.err)

pub returns-in_err-start-clause-err : goal.returns-in_err-start-clause-err
returns-in_err-start-clause-err c =
    let p = err_from_is_err_and c.from_residual-in_err-start.result c.from_residual-in_err-start.ensures.1 in
    rw (p.1, p.2) (log_refused c.args.bytes.now _ c.new-lines.ensures (plain_plant c.in_ok-plant.plant) c.read_plant.new.lines c.in_ok-plant.ensures.ok (plain_draft c.in_ok-draft.draft) c.read_controller.new.lines c.in_ok-draft.ensures.ok c.in_err-start.field-0.0 c.in_err-start.ensures.err)

pub returns-in_err-finish-clause-err : goal.returns-in_err-finish-clause-err
returns-in_err-finish-clause-err c =
    let p = err_from_is_err_and c.from_residual-in_err-finish.result c.from_residual-in_err-finish.ensures.1 in
    rw (p.1, p.2) (behind_log c.args.bytes.now _ c.new-lines.ensures (plain_plant c.in_ok-plant.plant) c.read_plant.new.lines c.in_ok-plant.ensures.ok (plain_draft c.in_ok-draft.draft) c.read_controller.new.lines c.in_ok-draft.ensures.ok
    (plain_log c.in_ok-start.start c.in_ok-start.entries.items) c.read_log.new.lines c.in_ok-start.ensures.ok c.in_err-finish.field-0.0 c.in_err-finish.ensures.err)

pub returns-clause-ok : goal.returns-clause-ok
returns-clause-ok c =
    log_ends c.args.bytes.now _ c.new-lines.ensures (plain_plant c.in_ok-plant.plant) c.read_plant.new.lines c.in_ok-plant.ensures.ok (plain_draft c.in_ok-draft.draft) c.read_controller.new.lines c.in_ok-draft.ensures.ok
    (plain_log c.in_ok-start.start c.in_ok-start.entries.items) c.read_log.new.lines c.in_ok-start.ensures.ok c.in_ok-finish.ensures.ok
