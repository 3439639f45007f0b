use Rattle.lhg_loss.proofs.Seeking.{outcome_laws}
use Rattle.lhg_loss.proofs.laws.law_outcomes.Goals as goal

pub returns : goal.returns
returns c = outcome_laws
