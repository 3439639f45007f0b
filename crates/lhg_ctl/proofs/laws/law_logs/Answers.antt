use Rattle.lhg_ctl.proofs.LogLawProofs.{log_reading, log_end}
use Rattle.lhg_ctl.proofs.laws.law_logs.Goals as goal

pub returns-clause-reading : goal.returns-clause-reading
returns-clause-reading c = log_reading

pub returns-clause-end : goal.returns-clause-end
returns-clause-end c = log_end
