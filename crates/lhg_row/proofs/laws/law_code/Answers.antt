use Rattle.lhg_row.specs.PlainCode.{point_code, row_code}
use Rattle.lhg_row.proofs.laws.law_code.Goals as goal

pub returns-clause-point : goal.returns-clause-point
returns-clause-point c = point_code

pub returns-clause-row : goal.returns-clause-row
returns-clause-row c = row_code
