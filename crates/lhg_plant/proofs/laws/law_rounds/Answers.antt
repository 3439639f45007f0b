use Rattle.lhg_plant.specs.Region.{InRegion}
use Rattle.lhg_plant.proofs.Rounds.{rounds_shrink, round_safe, removed_once, secure_in_round, settled_secure, settled_stays, last_once}
use Rattle.lhg_plant.proofs.laws.law_rounds.Goals as goal

pub returns : goal.returns
returns c = λ a. record {
  shrink = rounds_shrink a;
  safe = round_safe a;
  once = removed_once a;
  holds_secure = λ r h i s k. secure_in_round a (InRegion a r) h i s k;
  settled = settled_secure a;
  stays = settled_stays a;
  last_once = last_once a;
}
