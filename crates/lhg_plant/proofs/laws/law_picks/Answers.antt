use Rattle.lhg_plant.proofs.Picks.{picks_legal}
use Rattle.lhg_plant.proofs.laws.law_picks.Goals as goal

pub returns : goal.returns
returns c = picks_legal
