use Rattle.lhg_plant.specs.Views.{plain_plant, plain_state}
use Rattle.lhg_loss.specs.Views.{plain_losses}
use Rattle.lhg_cli.proofs.LostSteps.{lost_held}
use Rattle.lhg_cli.proofs.explaining.lost.Goals as goal

pub explain-requires-clause-held : goal.explain-requires-clause-held
explain-requires-clause-held c = lost_held (plain_plant c.args.plant.now) c.args.budget c.args.number (plain_losses c.args.losses.now) (plain_state c.args.state.now) c.requires.lost
