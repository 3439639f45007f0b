use Rattle.lhg_loss.proofs.PlaceRound.{place_round}
use Rattle.lhg_loss.proofs.laws.law_place.Goals as goal

pub returns : goal.returns
returns c = place_round
