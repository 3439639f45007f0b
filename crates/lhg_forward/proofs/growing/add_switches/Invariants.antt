use Rattle.std.proofs.Common.{map, drop}
use Rattle.lhg_num.specs.Marked.{walk, IsRest}
use Rattle.lhg_plant.specs.OutCalculus.{numbered}
use Rattle.lhg_plant.specs.Views.{plain_switch, plain_plant}
use Rattle.lhg_union.specs.Regions.{plain_region}
use Rattle.lhg_jump.specs.PlantLists.{AreListsOf}
use Rattle.lhg_forward.specs.Growth.{add_switch}
use Rattle.lhg_forward.specs.Views.{plain_growth}
use Rattle.lhg_forward.proofs.growing.add_switches.Given as goal

abbrev pub invariant-loop-e : goal.invariant-loop-e
invariant-loop-e l =
    let f = add_switch (plain_plant l.plant) (plain_region l.region) l.loc l.piece.lines in
    record {
      rest : IsRest (walk f (plain_growth l.initial.growth) (numbered 0 (plain_plant l.plant).switches)) (walk f (plain_growth l.growth) (numbered l.e (map plain_switch (drop l.e l.plant.switches.items))));
      lists : AreListsOf l.plant l.growth.pieces.items;
    }
