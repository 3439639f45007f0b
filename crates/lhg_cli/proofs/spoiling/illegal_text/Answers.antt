use Rattle.std.proofs.Common.{None}
use Rattle.lhg_plant.specs.Views.{plain_plant, plain_state}
use Rattle.lhg_play.specs.Views.{plain_spoil_steps}
use Rattle.lhg_cli.proofs.SpoilPlaces.{legal_placed}
use Rattle.lhg_cli.proofs.spoiling.illegal_text.Goals as goal

pub print_spoil-requires-clause-steps : goal.print_spoil-requires-clause-steps
print_spoil-requires-clause-steps c =
    legal_placed (plain_plant c.args.plant.now) (plain_state c.args.start.now) None (plain_spoil_steps c.args.steps.now) c.requires.legal.0 c.requires.legal.1
