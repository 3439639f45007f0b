use Rattle.lhg_motion.proofs.MotionExamples.{motion}
use Rattle.lhg_motion.proofs.laws.law_motion_example.Goals as goal

pub returns : goal.returns
returns c = motion
