use Rattle.std.proofs.Common.{◌≡◌, map, subst, sym}
use Rattle.lhg_plant.specs.Views.{plain_plant}
use Rattle.lhg_union.specs.Regions.{plain_region}
use Rattle.lhg_ctl.specs.Views.{plain_placed}
use Rattle.lhg_forward.specs.Growth.{ended, forward_sets}
use Rattle.lhg_forward.specs.Outcomes.{IsForwardStop}
use Rattle.lhg_forward.specs.StageFacts.{IsForward}
use Rattle.lhg_forward.specs.declared.sets.Forward.{Forward}
use Rattle.lhg_forward.specs.declared.stops.ForwardStop.{ForwardStop}
use Rattle.lhg_cli.specs.ReachAnswer.{PlantInit, IsExplored, IsUnexplored}
use Rattle.lhg_cli.proofs.InputSteps.{ok_with}
use Rattle.lhg_cli.proofs.ReachSteps.{err_by, explored_of, unexplored_of, unmade}
use Rattle.lhg_cli.proofs.reaching.explored.Goals as goal

pub returns-in-Ok-clause-explored : goal.returns-in-Ok-clause-explored
returns-in-Ok-clause-explored c =
    let a = plain_plant c.args.plant.now in
    let v : PlantInit = (a, map plain_placed c.args.init.now) in
    let init = plain_region c.in-Ok.region.pieces.items in
    let n = c.args.budget in
    ok_with (λ (f : Forward). forward_sets a init n ≡ ended f.rounds (plain_region f.region.pieces.items)) (λ (f : Forward). IsForward a init n f.rounds (plain_region f.region.pieces.items))
    (λ (f : Forward). IsExplored v n f.rounds (plain_region f.region.pieces.items)) c.forward.result
    (λ f e h. explored_of v n init c.in-Ok.ensures.calculus c.in-Ok.ensures.states f.rounds (plain_region f.region.pieces.items) e h) c.forward.ensures.end c.forward.ensures.forward

pub returns-in-Ok-clause-stop : goal.returns-in-Ok-clause-stop
returns-in-Ok-clause-stop c =
    let a = plain_plant c.args.plant.now in
    let v : PlantInit = (a, map plain_placed c.args.init.now) in
    let init = plain_region c.in-Ok.region.pieces.items in
    err_by (IsForwardStop a init c.args.budget) (IsUnexplored v c.args.budget) c.forward.result (unexplored_of v c.args.budget init c.in-Ok.ensures.calculus c.in-Ok.ensures.states) c.forward.ensures.stop

pub returns-in-Err-clause-stop : goal.returns-in-Err-clause-stop
returns-in-Err-clause-stop c =
    let v : PlantInit = (plain_plant c.args.plant.now, map plain_placed c.args.init.now) in
    subst (IsUnexplored v c.args.budget) (sym c.halted.ensures) (unmade v c.args.budget _ c.in-Err.halt c.in-Err.ensures.calculus)
