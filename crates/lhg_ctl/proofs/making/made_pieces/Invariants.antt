use Rattle.std.proofs.Common.{◌≡◌, drop, map, length}
use Rattle.lhg_num.specs.Marked.{walk, IsRest}
use Rattle.lhg_plant.specs.Views.{plain_plant}
use Rattle.lhg_union.specs.Regions.{plain_region}
use Rattle.lhg_ctl.specs.AllOver.{AreAllOver}
use Rattle.lhg_ctl.specs.Making.{line_made, all_made}
use Rattle.lhg_ctl.specs.Views.{plain_placed}
use Rattle.lhg_ctl.proofs.making.made_pieces.Given as goal

abbrev pub invariant-loop-i : goal.invariant-loop-i
invariant-loop-i l = record {
  rest : IsRest (all_made (plain_plant l.plant) (λ x. x) (length l.plant.locs.items) (map plain_placed l.pieces)) (walk (line_made (plain_plant l.plant) (λ x. x)) (plain_region l.lists.pieces.items) (map plain_placed (drop l.i l.pieces)));
  vars : AreAllOver (length l.plant.vars.items) l.lists.pieces.items;
  count : length l.lists.pieces.items ≡ length l.plant.locs.items;
}
