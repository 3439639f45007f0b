use Rattle.std.proofs.Common.{sym, subst}
use Rattle.lhg_row.specs.Sample.{sample}
use Rattle.lhg_plant.specs.Views.{plain_plant}
use Rattle.lhg_iterate.specs.Stops.{IsSpentStop}
use Rattle.lhg_iterate.proofs.Settling.{spent-value, sample-lost, sample-part, last-computed}
use Rattle.lhg_iterate.proofs.StopSteps.{sample_stop}
use Rattle.lhg_iterate.proofs.solving.spent.Goals as goal

pub returns-in-Ok : goal.returns-in-Ok
returns-in-Ok c =
    let p = c.args.plant.now in
    spent-value p c.args.budget c.args.stage.now c.requires.stage c.requires.some c.index-loss.result.now c.index-loss.ensures (c.law_work.ensures.steps (plain_plant p)) c.in-Ok.at c.in-Ok.ensures.calculus

pub returns-in-Err : goal.returns-in-Err
returns-in-Err c =
    let p = c.args.plant.now in
    let a = plain_plant p in
    let budget = c.args.budget in
    let loss = c.index-loss.result.now in
    subst (IsSpentStop a budget) (sym c.halted.ensures)
    (sample_stop a budget c.in-Err.halt (sample loss.piece.width loss.piece.lines) (λ x. x) (last-computed p budget c.args.stage.now c.requires.stage c.requires.some loss c.index-loss.ensures)
    (sample-lost p budget c.args.stage.now c.requires.stage c.requires.some loss c.index-loss.ensures) (sample-part p budget c.args.stage.now c.requires.stage c.requires.some loss c.index-loss.ensures) c.in-Err.ensures.calculus)
