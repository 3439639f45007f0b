use Rattle.lhg_plant.proofs.SwitchExamples.{switch_rows}
use Rattle.lhg_plant.proofs.laws.law_worked_switches.Goals as goal

pub returns : goal.returns
returns c = switch_rows
