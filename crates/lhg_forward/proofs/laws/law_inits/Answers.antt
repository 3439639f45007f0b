use Rattle.lhg_forward.proofs.InitReading.{init_reading, init_end}
use Rattle.lhg_forward.proofs.laws.law_inits.Goals as goal

pub returns-clause-reading : goal.returns-clause-reading
returns-clause-reading c = init_reading

pub returns-clause-end : goal.returns-clause-end
returns-clause-end c = init_end
