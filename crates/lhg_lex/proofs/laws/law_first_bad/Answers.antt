use Rattle.lhg_lex.proofs.FirstBadProofs.{first_bad_laws}
use Rattle.lhg_lex.proofs.laws.law_first_bad.Goals as goal

pub returns : goal.returns
returns c = first_bad_laws
