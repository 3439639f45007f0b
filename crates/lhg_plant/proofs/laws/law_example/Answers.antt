use Rattle.lhg_plant.proofs.Words.{names}
use Rattle.lhg_plant.proofs.Examples.{heater, level}
use Rattle.lhg_plant.proofs.PickExamples.{lifted}
use Rattle.lhg_plant.proofs.laws.law_example.Goals as goal

pub returns-clause-words : goal.returns-clause-words
returns-clause-words c = names

pub returns-clause-thermostat : goal.returns-clause-thermostat
returns-clause-thermostat c = heater

pub returns-clause-tank : goal.returns-clause-tank
returns-clause-tank c = level

pub returns-clause-lift : goal.returns-clause-lift
returns-clause-lift c = lifted
