use Rattle.lhg_read.proofs.TextLawProofs.{plant_reading, state_reading}
use Rattle.lhg_read.proofs.laws.law_texts.Goals as goal

pub returns-clause-plants : goal.returns-clause-plants
returns-clause-plants c = plant_reading

pub returns-clause-states : goal.returns-clause-states
returns-clause-states c = state_reading
