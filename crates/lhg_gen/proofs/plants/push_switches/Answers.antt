use Rattle.lhg_gen.proofs.MoreLines.{switch_more}
use Rattle.lhg_gen.proofs.plants.push_switches.Goals as goal

pub loop-i-preserved : goal.loop-i-preserved
loop-i-preserved c = switch_more c.loop-i.i c.args.text.now.items c.loop-i.text.items c.push_switch.new.text.items c.loop-i.invariant c.in_ok-push_switch.ensures
