use Rattle.lhg_ctl.proofs.ControllerLawProofs.{controller_reading, controller_end}
use Rattle.lhg_ctl.proofs.laws.law_controllers.Goals as goal

pub returns-clause-reading : goal.returns-clause-reading
returns-clause-reading c = controller_reading

pub returns-clause-end : goal.returns-clause-end
returns-clause-end c = controller_end
