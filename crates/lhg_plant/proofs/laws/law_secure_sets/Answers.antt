use Rattle.lhg_plant.proofs.Rounds.{secure_in_round}
use Rattle.lhg_plant.proofs.laws.law_secure_sets.Goals as goal

pub returns : goal.returns
returns g c = λ a h i s k. secure_in_round a _ h i s k
