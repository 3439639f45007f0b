use Rattle.lhg_gen.proofs.MoreLines.{location_more}
use Rattle.lhg_gen.proofs.plants.push_locations.Goals as goal

pub loop-i-preserved : goal.loop-i-preserved
loop-i-preserved c = location_more c.loop-i.i c.args.text.now.items c.loop-i.text.items c.push_location.new.text.items c.loop-i.invariant c.in_ok-push_location.ensures
