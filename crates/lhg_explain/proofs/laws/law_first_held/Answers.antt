use Rattle.lhg_explain.proofs.Fitting.{first_held}
use Rattle.lhg_explain.proofs.laws.law_first_held.Goals as goal

pub returns : goal.returns
returns c = first_held
