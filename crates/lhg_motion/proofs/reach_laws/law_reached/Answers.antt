use Rattle.lhg_motion.specs.ReachCases.{reach_case}
use Rattle.lhg_motion.specs.ReachExact.{unmarked-within}
use Rattle.lhg_motion.proofs.reach_laws.law_reached.Goals as goal

pub returns : goal.returns
returns c = record { case = reach_case; limit = unmarked-within }
