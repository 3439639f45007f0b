use Rattle.lhg_play.proofs.CallSteps.{coordinates-start}
use Rattle.lhg_play.proofs.places.coordinates.Goals as goal

pub loop-i-init : goal.loop-i-init
loop-i-init c = coordinates-start c.args.from.now c.args.to.now c.args.place.now c.in_ok-out.out.items c.in_ok-out.ensures.items
