use Rattle.lhg_loss.proofs.Seeking.{solved_largest}
use Rattle.lhg_loss.proofs.laws.law_largest.Goals as goal

pub returns : goal.returns
returns g c = λ a budget k rounds losses h secure s t. solved_largest a budget k rounds losses _ h secure s t
