use Rattle.lhg_loss.proofs.LastRounds.{last_law}
use Rattle.lhg_loss.proofs.laws.law_last.Goals as goal

pub returns : goal.returns
returns c = last_law
