use Rattle.std.proofs.Common.{◌≡◌, length, map, drop}
use Rattle.lhg_num.specs.Marked.{each}
use Rattle.lhg_num.specs.MarkedLaws.{IsBuilt}
use Rattle.lhg_jump.specs.PlantLists.{AreOver}
use Rattle.lhg_union.specs.Regions.{plain_region}
use Rattle.lhg_plant.specs.BackCalculus.{back_by}
use Rattle.lhg_plant.specs.Views.{plain_switch, plain_plant}
use Rattle.lhg_jump.proofs.backs.back.Given as goal

abbrev pub invariant-loop-switch : goal.invariant-loop-switch
invariant-loop-switch l =
    let f = back_by (length l.plant.vars.items) (plain_region l.invs.items) (plain_region l.region.pieces.items) (plain_region l.away.pieces.items) in
    record {
      built : IsBuilt (each f (plain_plant l.plant).switches) (plain_region l.backs.items) (each f (map plain_switch (drop l.switch-index l.plant.switches.items)));
      vars : AreOver l.plant l.backs.items;
      many : length l.backs.items ≡ l.switch-index;
    }
