use Rattle.lhg_explain.proofs.Escapes.{explain_law}
use Rattle.lhg_explain.proofs.laws.law_explain.Goals as goal

pub returns : goal.returns
returns c = explain_law
