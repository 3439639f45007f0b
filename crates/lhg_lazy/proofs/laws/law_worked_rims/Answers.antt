use Rattle.lhg_lazy.specs.WorkedRims.{rim_rows}
use Rattle.lhg_lazy.proofs.laws.law_worked_rims.Goals as goal

pub returns : goal.returns
returns c = rim_rows
