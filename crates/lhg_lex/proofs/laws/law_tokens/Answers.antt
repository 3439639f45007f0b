use Rattle.lhg_lex.proofs.LongestLemmas.{longest_holds, longest_one}
use Rattle.lhg_lex.proofs.TokenLawProofs.{token_laws}
use Rattle.lhg_lex.proofs.laws.law_tokens.Goals as goal

pub returns-clause-kinds : goal.returns-clause-kinds
returns-clause-kinds c = token_laws

pub returns-clause-longest : goal.returns-clause-longest
returns-clause-longest c = record { holds = longest_holds; one = longest_one }
