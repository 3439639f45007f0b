use Rattle.lhg_spoil.proofs.PlaySteps.{last_end}
use Rattle.lhg_spoil.proofs.plays.end_of.Goals as goal

pub returns-in-Some : goal.returns-in-Some
returns-in-Some c = last_end c.args.x.now c.args.moves.now c.in-Some.step.now c.in-Some.ensures.value
