use Rattle.lhg_read.proofs.PlantEnds.{plant_end}
use Rattle.lhg_read.proofs.laws.law_plants.Goals as goal

pub returns : goal.returns
returns c = plant_end
