use Rattle.std.proofs.Common.{◌≡◌, length, map, drop}
use Rattle.lhg_num.specs.Marked.{each}
use Rattle.lhg_num.specs.MarkedLaws.{IsBuilt}
use Rattle.lhg_union.specs.Regions.{plain_region}
use Rattle.lhg_plant.specs.Invariants.{invariant_list}
use Rattle.lhg_plant.specs.Views.{plain_location, plain_plant}
use Rattle.lhg_jump.specs.PlantLists.{AreOver}
use Rattle.lhg_jump.proofs.invariant_lists.invariants.Given as goal

abbrev pub invariant-loop-location : goal.invariant-loop-location
invariant-loop-location l =
    let f = invariant_list (length l.plant.vars.items) in
    record {
      built : IsBuilt (each f (plain_plant l.plant).locs) (plain_region l.pieces.items) (each f (map plain_location (drop l.location-index l.plant.locs.items)));
      vars : AreOver l.plant l.pieces.items;
      many : length l.pieces.items ≡ l.location-index;
    }
