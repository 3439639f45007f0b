use Rattle.lhg_quiet.proofs.QuietSteps.{quiet_laws}
use Rattle.lhg_quiet.proofs.laws.law_quiet.Goals as goal

pub returns : goal.returns
returns c = quiet_laws
