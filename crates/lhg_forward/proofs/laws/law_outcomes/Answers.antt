use Rattle.lhg_forward.proofs.Iteration.{outcome_laws}
use Rattle.lhg_forward.proofs.laws.law_outcomes.Goals as goal

pub returns : goal.returns
returns c = outcome_laws
