use Rattle.lhg_plant.specs.Region.{InRegion}
use Rattle.lhg_plant.proofs.StillPlays.{still_stays, still_closed, still_rounds, still_last}
use Rattle.lhg_plant.proofs.Solutions.{still_solves}
use Rattle.lhg_plant.proofs.laws.law_still.Goals as goal

pub returns : goal.returns
returns c = λ a. record {
  stays = still_stays a;
  closed = λ still none r k s h escape. still_closed a still none (InRegion a r) (InRegion a k) s h escape;
  rounds = still_rounds a;
  last = still_last a;
  solved = still_solves a;
}
