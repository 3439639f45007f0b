use Rattle.lhg_loss.proofs.Solves.{solve_law}
use Rattle.lhg_loss.proofs.laws.law_solve.Goals as goal

pub returns : goal.returns
returns c = solve_law
