use Rattle.lhg_union.specs.Regions.{plain_region}
use Rattle.lhg_plant.specs.Controller.{PlainController}
use Rattle.lhg_plant.specs.Views.{plain_plant}
use Rattle.lhg_loss.specs.Views.{plain_losses}
use Rattle.lhg_iterate.proofs.laws.law_largest.Goals as goal

pub returns : goal.returns
returns g c = λ s held.
    let v = c.args.solved.now in
    let controller : PlainController = record { region = plain_region v.region.pieces.items; guards = plain_region v.guards.items } in
    c.law_largest.ensures (plain_plant c.args.plant.now) c.requires.solved.0 controller v.rounds (plain_losses v.losses.items) c.requires.solved.1 c.requires.secure s held
