use Rattle.lhg_plant.proofs.BackStates.{back-states}
use Rattle.lhg_plant.proofs.KeepStates.{keep-states, guards-states}
use Rattle.lhg_plant.proofs.laws.law_back.Goals as goal

pub returns-clause-back : goal.returns-clause-back
returns-clause-back c = back-states

pub returns-clause-joined : goal.returns-clause-joined
returns-clause-joined c = keep-states

pub returns-clause-guards : goal.returns-clause-guards
returns-clause-guards c = guards-states
