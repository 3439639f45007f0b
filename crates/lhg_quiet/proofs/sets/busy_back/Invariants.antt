use Rattle.std.proofs.Common.{◌≡◌, length, map, drop}
use Rattle.lhg_num.specs.Marked.{each}
use Rattle.lhg_num.specs.MarkedLaws.{IsBuilt}
use Rattle.lhg_union.specs.Regions.{plain_region}
use Rattle.lhg_plant.specs.Views.{plain_switch, plain_plant}
use Rattle.lhg_jump.specs.PlantLists.{AreOver}
use Rattle.lhg_quiet.specs.Masked.{busy_back_by}
use Rattle.lhg_quiet.proofs.sets.busy_back.Given as goal

abbrev pub invariant-loop-switch : goal.invariant-loop-switch
invariant-loop-switch l =
    let f = busy_back_by (length l.plant.vars.items) l.quiet (plain_region l.invs) (plain_region l.region) (plain_region l.away) in
    record {
      built : IsBuilt (each f (plain_plant l.plant).switches) (plain_region l.backs.items) (each f (map plain_switch (drop l.switch-index l.plant.switches.items)));
      vars : AreOver l.plant l.backs.items;
      many : length l.backs.items ≡ l.switch-index;
    }
