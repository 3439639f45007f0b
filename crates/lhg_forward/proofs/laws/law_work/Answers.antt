use Rattle.lhg_forward.proofs.Iteration.{step_laws, work_laws}
use Rattle.lhg_forward.proofs.laws.law_work.Goals as goal

pub returns-clause-steps : goal.returns-clause-steps
returns-clause-steps c = step_laws

pub returns-clause-marks : goal.returns-clause-marks
returns-clause-marks c = work_laws
