use Rattle.lhg_row.specs.Worked.{trim_rows, eliminate_rows, empty_rows, mark_rows}
use Rattle.lhg_row.proofs.calculus_laws.law_worked.Goals as goal

pub returns-clause-trim : goal.returns-clause-trim
returns-clause-trim c = trim_rows

pub returns-clause-eliminate : goal.returns-clause-eliminate
returns-clause-eliminate c = eliminate_rows

pub returns-clause-empty : goal.returns-clause-empty
returns-clause-empty c = empty_rows

pub returns-clause-marks : goal.returns-clause-marks
returns-clause-marks c = mark_rows
