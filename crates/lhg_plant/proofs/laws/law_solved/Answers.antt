use Rattle.lhg_plant.proofs.Solutions.{last_solves}
use Rattle.lhg_plant.proofs.laws.law_solved.Goals as goal

pub returns : goal.returns
returns c = last_solves
