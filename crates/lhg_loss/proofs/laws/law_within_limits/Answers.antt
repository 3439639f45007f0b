use Rattle.lhg_loss.proofs.Limits.{limit_law}
use Rattle.lhg_loss.proofs.laws.law_within_limits.Goals as goal

pub returns : goal.returns
returns c = limit_law
