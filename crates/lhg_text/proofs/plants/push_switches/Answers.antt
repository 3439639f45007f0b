use Rattle.std.proofs.Common.{length}
use Rattle.lhg_plant.specs.Proper.{IsSwitch}
use Rattle.lhg_plant.specs.Views.{plain_switch}
use Rattle.lhg_math.specs.ListFacts.{all_map_at}
use Rattle.lhg_text.proofs.plants.push_switches.Goals as goal

pub push_switch-requires : goal.push_switch-requires
push_switch-requires c = all_map_at (IsSwitch (length c.args.vars.now) (length c.args.locs.now)) plain_switch c.args.switches.now c.loop-i.i c.index-switches-i.result c.requires c.loop-i-test.true c.index-switches-i.is
