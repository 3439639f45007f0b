use Rattle.lhg_quiet.proofs.ChangeSteps.{change_laws}
use Rattle.lhg_quiet.proofs.laws.law_changes.Goals as goal

pub returns : goal.returns
returns c = change_laws
