-- What does a round find that those before it handed on?
use Rattle.std.specs.Prelude.{◌≡◌, ◌<◌, List, length}
use Rattle.std.specs.Global.{Vec}
use Rattle.lhg_row.specs.System.{PlainSystem}
use Rattle.lhg_plant.specs.declared.plants.Plant.{Plant}
use Rattle.lhg_jump.specs.PlantLists.{AreInvariantsOf, AreAwayOf}
use Rattle.lhg_quiet.specs.Outside.{AreStillOutside}
use Rattle.lhg_iterate.specs.declared.carried.Carried.{Carried}

-- the invariants, a mark for each location, and what is outside the region where it is not marked; or no list of that yet
pub record IsCarriedTo (p : Plant) (region : List (Vec PlainSystem)) (c : Carried) : Type 0 where
  pub invs : AreInvariantsOf p c.invs.items
  pub marks : length c.changed.items ≡ length p.locs.items
  pub away : 0 < length c.outs.away.pieces.items → AreStillOutside p region c.changed.items c.outs.away.pieces.items

-- the same, with what is outside the region in each location
pub record IsRenewedFor (p : Plant) (region : List (Vec PlainSystem)) (c : Carried) : Type 0 where
  pub invs : AreInvariantsOf p c.invs.items
  pub marks : length c.changed.items ≡ length p.locs.items
  pub away : AreAwayOf p region c.outs.away.pieces.items
