use Rattle.lhg_loss.proofs.Solves.{stage_laws}
use Rattle.lhg_loss.proofs.laws.law_stages.Goals as goal

pub returns : goal.returns
returns c = stage_laws
