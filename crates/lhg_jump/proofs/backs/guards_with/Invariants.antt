use Rattle.std.proofs.Common.{◌≡◌, length, map, drop}
use Rattle.lhg_num.specs.Marked.{each}
use Rattle.lhg_num.specs.MarkedLaws.{IsBuilt}
use Rattle.lhg_jump.specs.PlantLists.{AreOver}
use Rattle.lhg_union.specs.Regions.{plain_region}
use Rattle.lhg_plant.specs.BackCalculus.{guard_by}
use Rattle.lhg_plant.specs.Views.{plain_switch, plain_plant}
use Rattle.lhg_jump.proofs.backs.guards_with.Given as goal

abbrev pub invariant-loop-switch : goal.invariant-loop-switch
invariant-loop-switch l =
    let f = guard_by (length l.plant.vars.items) (plain_region l.invs) (plain_region l.region.pieces.items) (plain_region l.away) in
    record {
      built : IsBuilt (each f (plain_plant l.plant).switches) (plain_region l.guards.items) (each f (map plain_switch (drop l.switch-index l.plant.switches.items)));
      vars : AreOver l.plant l.guards.items;
      many : length l.guards.items ≡ l.switch-index;
    }
