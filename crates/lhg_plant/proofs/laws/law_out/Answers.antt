use Rattle.lhg_plant.proofs.OutStates.{out-states}
use Rattle.lhg_plant.proofs.laws.law_out.Goals as goal

pub returns : goal.returns
returns c = out-states
