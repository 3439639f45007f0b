use Rattle.lhg_quiet.proofs.PlaceSteps.{place_laws}
use Rattle.lhg_quiet.proofs.laws.law_place.Goals as goal

pub returns : goal.returns
returns c = place_laws
