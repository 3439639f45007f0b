use Rattle.lhg_check.proofs.Checks.{check_law}
use Rattle.lhg_check.proofs.laws.law_check.Goals as goal

pub returns : goal.returns
returns c = check_law
