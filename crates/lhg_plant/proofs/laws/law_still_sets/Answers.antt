use Rattle.lhg_plant.proofs.StillPlays.{still_closed}
use Rattle.lhg_plant.proofs.laws.law_still_sets.Goals as goal

pub returns : goal.returns
returns g c = λ a still none s h escape. still_closed a still none _ _ s h escape
