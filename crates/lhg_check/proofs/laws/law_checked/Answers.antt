use Rattle.lhg_check.proofs.Checks.{checked_law}
use Rattle.lhg_check.proofs.laws.law_checked.Goals as goal

pub returns : goal.returns
returns c = checked_law
