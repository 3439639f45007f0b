use Rattle.std.proofs.Common.{length}
use Rattle.lhg_plant.specs.Proper.{IsLocation}
use Rattle.lhg_plant.specs.Views.{plain_location}
use Rattle.lhg_math.specs.ListFacts.{all_map_at}
use Rattle.lhg_text.proofs.plants.push_locations.Goals as goal

pub push_location-requires : goal.push_location-requires
push_location-requires c = all_map_at (IsLocation (length c.args.vars.now)) plain_location c.args.locs.now c.loop-i.i c.index-locs-i.result c.requires c.loop-i-test.true c.index-locs-i.is
