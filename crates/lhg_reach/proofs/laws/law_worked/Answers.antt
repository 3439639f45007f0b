use Rattle.lhg_reach.specs.WorkedReach.{reach_rows}
use Rattle.lhg_reach.proofs.laws.law_worked.Goals as goal

pub returns : goal.returns
returns c = reach_rows
