-- Where are states that were outside an earlier region those outside this one?
use Rattle.std.specs.Prelude.{Bool, List}
use Rattle.std.specs.Global.{Vec}
use Rattle.lhg_row.specs.System.{PlainSystem}
use Rattle.lhg_plant.specs.declared.plants.Plant.{Plant}
use Rattle.lhg_plant.specs.Views.{plain_plant}
use Rattle.lhg_union.specs.Regions.{plain_region}
use Rattle.lhg_jump.specs.PlantLists.{AreListsOf}
use Rattle.lhg_quiet.specs.Quiet.{AreKeptOutside}

-- there is a list for each location, and in each that is not marked the pieces are those outside the region
pub record AreStillOutside (p : Plant) (region : List (Vec PlainSystem)) (changed : List Bool) (outside : List (Vec PlainSystem)) : Type 0 where
  pub has_lists : AreListsOf p outside
  pub same : AreKeptOutside (plain_plant p) (plain_region region) changed (plain_region outside)
