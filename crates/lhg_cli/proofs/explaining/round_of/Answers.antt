use Rattle.lhg_plant.specs.Views.{plain_plant, plain_state}
use Rattle.lhg_cli.proofs.LostSteps.{lost_place, lost_positive, lost_removed}
use Rattle.lhg_cli.proofs.explaining.round_of.Goals as goal

pub overflow_sub-result : goal.overflow_sub-result
overflow_sub-result c = lost_positive (plain_plant c.args.plant.now) c.args.budget c.args.number c.args.losses.now (plain_state c.args.state.now) c.requires

pub bounds-losses-number : goal.bounds-losses-number
bounds-losses-number c = lost_place (plain_plant c.args.plant.now) c.args.budget c.args.number c.args.losses.now (plain_state c.args.state.now) c.requires

pub bounds-losses-number-2 : goal.bounds-losses-number-2
bounds-losses-number-2 c = lost_place (plain_plant c.args.plant.now) c.args.budget c.args.number c.args.losses.now (plain_state c.args.state.now) c.requires

pub returns : goal.returns
returns c = lost_removed (plain_plant c.args.plant.now) c.args.budget c.args.number c.args.losses.now (plain_state c.args.state.now) c.requires c.index-losses-number.result
