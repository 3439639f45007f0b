use Rattle.std.proofs.Common.{map}
use Rattle.lhg_plant.specs.Views.{plain_plant}
use Rattle.lhg_union.specs.Regions.{plain_region}
use Rattle.lhg_ctl.specs.Views.{plain_placed}
use Rattle.lhg_cli.specs.ReachAnswer.{PlantInit, TellsReachStop, IsReached}
use Rattle.lhg_cli.specs.declared.solving.Answer.{Answer}
use Rattle.lhg_cli.proofs.AnswerSteps.{ok_by}
use Rattle.lhg_cli.proofs.ReachSteps.{placed_stop, stop_told, told_answer}
use Rattle.lhg_cli.proofs.reaching.reached.Goals as goal

pub returns-in-Ok : goal.returns-in-Ok
returns-in-Ok c =
    let v : PlantInit = (plain_plant c.args.plant.now, map plain_placed c.args.init.now) in
    told_answer v c.args.budget c.in-Ok.found.rounds (plain_region c.in-Ok.found.region.pieces.items) c.in-Ok.ensures.explored c.told.result c.told.ensures.status c.told.ensures.text c.told.ensures.one_reading

pub stopped-requires : goal.stopped-requires
stopped-requires c =
    let v : PlantInit = (plain_plant c.args.plant.now, map plain_placed c.args.init.now) in
    placed_stop v c.args.budget c.in-Err.stop c.in-Err.ensures.stop

pub returns-in-Err : goal.returns-in-Err
returns-in-Err c =
    let v : PlantInit = (plain_plant c.args.plant.now, map plain_placed c.args.init.now) in
    ok_by (λ (a : Answer). TellsReachStop v.0 c.args.budget c.in-Err.stop a.status a.text.items) (λ (a : Answer). IsReached c.args.budget v a.status a.text.items) c.stopped.result
    (λ a t. stop_told v c.args.budget c.in-Err.stop a.status a.text.items c.in-Err.ensures.stop t) c.stopped.ensures
