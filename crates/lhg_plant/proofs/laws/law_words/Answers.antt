use Rattle.lhg_plant.proofs.Words.{name_decided, variable_decided, some_byte}
use Rattle.lhg_plant.proofs.laws.law_words.Goals as goal

pub returns : goal.returns
returns c = record { name = name_decided; variable = variable_decided; some_byte = some_byte }
