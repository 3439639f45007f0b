use Rattle.std.proofs.Common.{◌-◌, length}
use Rattle.std.specs.List.{range_with_len}
use Rattle.lhg_num.specs.Marked.{walk, IsRest}
use Rattle.lhg_plant.specs.Views.{plain_plant}
use Rattle.lhg_jump.specs.PlantLists.{AreListsOf}
use Rattle.lhg_forward.specs.Growth.{add_location, growth}
use Rattle.lhg_forward.specs.Views.{plain_growth, plain_stage}
use Rattle.lhg_forward.proofs.growing.growth_of.Given as goal

abbrev pub invariant-loop-l : goal.invariant-loop-l
invariant-loop-l l =
    let a = plain_plant l.plant in
    let s = plain_stage l.stage in
    record {
      rest : IsRest (growth a s) (walk (add_location a s) (plain_growth l.growth) (range_with_len l.l (length l.plant.locs.items - l.l)));
      lists : AreListsOf l.plant l.growth.pieces.items;
    }
