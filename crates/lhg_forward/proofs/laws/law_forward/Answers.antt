use Rattle.lhg_forward.proofs.Iteration.{forward_law}
use Rattle.lhg_forward.proofs.laws.law_forward.Goals as goal

pub returns : goal.returns
returns c = forward_law
