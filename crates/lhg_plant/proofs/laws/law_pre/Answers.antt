use Rattle.lhg_plant.proofs.PreStates.{pre-states}
use Rattle.lhg_plant.proofs.laws.law_pre.Goals as goal

pub returns : goal.returns
returns c = pre-states
