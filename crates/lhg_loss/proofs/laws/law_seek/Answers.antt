use Rattle.lhg_loss.proofs.Seeking.{seek_laws}
use Rattle.lhg_loss.proofs.laws.law_seek.Goals as goal

pub returns : goal.returns
returns c = seek_laws
