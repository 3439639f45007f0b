use Rattle.lhg_check.proofs.CheckSolved.{solved_check_laws}
use Rattle.lhg_check.proofs.laws.law_solved_check.Goals as goal

pub returns : goal.returns
returns c = solved_check_laws
