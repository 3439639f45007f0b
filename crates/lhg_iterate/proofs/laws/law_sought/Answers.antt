use Rattle.lhg_iterate.proofs.SoughtAnswers.{sought_laws}
use Rattle.lhg_iterate.proofs.laws.law_sought.Goals as goal

pub returns : goal.returns
returns c = sought_laws
