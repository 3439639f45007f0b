use Rattle.lhg_row.specs.WidenedLaws.{widened_laws}
use Rattle.lhg_row.proofs.calculus_laws.law_widened.Goals as goal

pub returns : goal.returns
returns c = widened_laws
