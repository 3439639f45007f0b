use Rattle.lhg_row.proofs.Examples.{interval, empties}
use Rattle.lhg_row.proofs.laws.law_example.Goals as goal

pub returns-clause-interval : goal.returns-clause-interval
returns-clause-interval c = interval

pub returns-clause-empty : goal.returns-clause-empty
returns-clause-empty c = empties
