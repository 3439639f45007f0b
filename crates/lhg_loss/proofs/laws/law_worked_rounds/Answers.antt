use Rattle.lhg_loss.specs.WorkedRounds.{round_rows}
use Rattle.lhg_loss.proofs.WorkedSolution.{rising_solved}
use Rattle.lhg_loss.proofs.laws.law_worked_rounds.Goals as goal

pub returns-clause-rows : goal.returns-clause-rows
returns-clause-rows c = round_rows

pub returns-clause-solved : goal.returns-clause-solved
returns-clause-solved c = rising_solved
