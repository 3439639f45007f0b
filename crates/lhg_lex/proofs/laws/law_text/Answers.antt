use Rattle.lhg_lex.proofs.TextLawProofs.{text_laws, next_laws}
use Rattle.lhg_lex.proofs.laws.law_text.Goals as goal

pub returns-clause-lines : goal.returns-clause-lines
returns-clause-lines c = text_laws

pub returns-clause-next : goal.returns-clause-next
returns-clause-next c = next_laws
