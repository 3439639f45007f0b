use Rattle.lhg_loss.proofs.Parts.{solved_law}
use Rattle.lhg_loss.proofs.laws.law_solved_within.Goals as goal

pub returns : goal.returns
returns c = solved_law
