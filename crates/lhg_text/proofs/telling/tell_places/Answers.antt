use Rattle.std.proofs.Common.{length}
use Rattle.lhg_plant.specs.Views.{plain_plant}
use Rattle.lhg_text.proofs.RecordPlaces.{all_placed, all_over}
use Rattle.lhg_text.proofs.telling.tell_places.Goals as goal

pub returns-clause-places : goal.returns-clause-places
returns-clause-places c = all_placed (plain_plant c.args.plant.now) c.args.losses.now c.requires.sound c.requires.vars c.tell_pieces.ensures

pub returns-clause-vars : goal.returns-clause-vars
returns-clause-vars c = all_over (length c.args.plant.now.vars.items) c.args.losses.now c.requires.vars
