use Rattle.lhg_plant.specs.Region.{InRegion}
use Rattle.lhg_forward.proofs.Levels.{levels_grow, level_reachable, reachable_level, stands_still, added_once, last_once}
use Rattle.lhg_forward.proofs.laws.law_levels.Goals as goal

pub returns : goal.returns
returns c = λ a init.
    record {
      grow = levels_grow a (InRegion a init);
      reachable = λ z. (reachable_level a (InRegion a init) z, λ l. level_reachable a (InRegion a init) l.0 z l.1);
      settled = stands_still a (InRegion a init);
      once = added_once a (InRegion a init);
      last_once = last_once a (InRegion a init);
    }
