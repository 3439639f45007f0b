use Rattle.lhg_lex.proofs.LineLawProofs.{content_laws, line_laws}
use Rattle.lhg_lex.proofs.laws.law_line.Goals as goal

pub returns-clause-content : goal.returns-clause-content
returns-clause-content c = content_laws

pub returns-clause-line : goal.returns-clause-line
returns-clause-line c = line_laws
