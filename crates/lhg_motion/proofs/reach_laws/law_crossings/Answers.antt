use Rattle.lhg_motion.specs.CrossingLaws.{covered_steps, newest_steps}
use Rattle.lhg_motion.specs.ReachSound.{reach_plays}
use Rattle.lhg_motion.proofs.reach_laws.law_crossings.Goals as goal

pub returns : goal.returns
returns c = record {
  plays = reach_plays;
  covered = covered_steps;
  newest = newest_steps;
}
