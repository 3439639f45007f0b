use Rattle.lhg_check.specs.WorkedChecks.{check_rows}
use Rattle.lhg_check.proofs.WorkedValid.{thermostat_valid}
use Rattle.lhg_check.proofs.laws.law_worked_checks.Goals as goal

pub returns-clause-rows : goal.returns-clause-rows
returns-clause-rows c = check_rows

pub returns-clause-valid : goal.returns-clause-valid
returns-clause-valid c = thermostat_valid
