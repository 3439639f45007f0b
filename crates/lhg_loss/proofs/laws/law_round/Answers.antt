use Rattle.lhg_loss.proofs.Exact.{one_round_exact}
use Rattle.lhg_loss.proofs.laws.law_round.Goals as goal

pub returns : goal.returns
returns c = one_round_exact
