use Rattle.lhg_motion.proofs.ReachExamples.{facts}
use Rattle.lhg_motion.proofs.reach_laws.law_reach_example.Goals as goal

pub returns : goal.returns
returns c = facts
