use Rattle.lhg_cross.specs.WorkedCrossings.{crossing_rows}
use Rattle.lhg_cross.proofs.laws.law_crossings.Goals as goal

pub returns : goal.returns
returns c = crossing_rows
