use Rattle.std.proofs.Common.{refl}
use Rattle.lhg_plant.specs.Views.{plain_plant, plain_state}
use Rattle.lhg_play.specs.Views.{plain_escape}
use Rattle.lhg_cli.proofs.LostSteps.{escape_moves, escape_exit}
use Rattle.lhg_cli.proofs.explaining.printed.Goals as goal

pub print_escape-requires-clause-moves : goal.print_escape-requires-clause-moves
print_escape-requires-clause-moves c = escape_moves (plain_plant c.args.plant.now) (plain_state c.args.state.now) (plain_escape c.args.escape.now) c.requires.explained

pub print_escape-requires-clause-last : goal.print_escape-requires-clause-last
print_escape-requires-clause-last c =
    escape_exit (plain_plant c.args.plant.now) (plain_state c.args.state.now) (plain_escape c.args.escape.now) c.args.escape.now.last refl c.requires.explained
