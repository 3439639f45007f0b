use Rattle.std.proofs.Common.{ap}
use Rattle.lhg_plant.specs.Run.{landed}
use Rattle.lhg_plant.specs.Views.{plain_plant, plain_state, plain_switch}
use Rattle.lhg_run.proofs.MoveSteps.{switch-there, land-taken}
use Rattle.lhg_run.proofs.moves.land.Goals as goal

pub returns : goal.returns
returns c = λ k.
    let p = c.args.plant.now in
    let a = plain_plant p in
    let e = c.args.switch in
    let w = c.index.result.now in
    land-taken a e (plain_state c.args.from.now) c.args.to.now k c.in_ok-rested.field-0 (plain_switch w) (switch-there p.switches.items e w c.requires.there c.index.ensures)
    (c.in_ok-legal.ensures.exact.0 c.if-not-legal.false) _ (ap landed c.in_ok-state_at.ensures) c.in_ok-rested.ensures
