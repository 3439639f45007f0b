use Rattle.lhg_loss.proofs.Parts.{exact_parts}
use Rattle.lhg_loss.proofs.laws.law_parts.Goals as goal

pub returns : goal.returns
returns c = exact_parts
