use Rattle.std.proofs.Common.{drop}
use Rattle.lhg_num.specs.Marked.{walk, IsRest}
use Rattle.lhg_plant.specs.Views.{plain_plant}
use Rattle.lhg_union.specs.PolyLists.{lines_of}
use Rattle.lhg_union.specs.Regions.{plain_region}
use Rattle.lhg_jump.specs.PlantLists.{AreListsOf}
use Rattle.lhg_forward.specs.Growth.{add_piece}
use Rattle.lhg_forward.specs.Views.{plain_growth}
use Rattle.lhg_forward.proofs.growing.add_location.Given as goal

abbrev pub invariant-loop-piece : goal.invariant-loop-piece
invariant-loop-piece l =
    let f = add_piece (plain_plant l.plant) (plain_region l.stage.region.pieces.items) l.l in
    record {
      rest : IsRest (walk f (plain_growth l.initial.growth) (lines_of l.newest)) (walk f (plain_growth l.growth) (lines_of (drop l.piece-index l.newest)));
      lists : AreListsOf l.plant l.growth.pieces.items;
    }
