use Rattle.lhg_lazy.proofs.CutStates.{candidate-laws}
use Rattle.lhg_lazy.proofs.laws.law_candidates.Goals as goal

pub returns : goal.returns
returns c = candidate-laws
