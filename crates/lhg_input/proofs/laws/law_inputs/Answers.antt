use Rattle.lhg_input.proofs.InitWholes.{inits_one}
use Rattle.lhg_input.proofs.MovesWholes.{spoils_one}
use Rattle.lhg_input.proofs.Wholes.{controllers_one, logs_one, states_one}
use Rattle.lhg_input.proofs.laws.law_inputs.Goals as goal

pub returns-clause-controllers : goal.returns-clause-controllers
returns-clause-controllers c = controllers_one

pub returns-clause-logs : goal.returns-clause-logs
returns-clause-logs c = logs_one

pub returns-clause-states : goal.returns-clause-states
returns-clause-states c = states_one

pub returns-clause-inits : goal.returns-clause-inits
returns-clause-inits c = inits_one

pub returns-clause-spoils : goal.returns-clause-spoils
returns-clause-spoils c = spoils_one
