use Rattle.std.proofs.Common.{◌≡◌, length}
use Rattle.lhg_union.specs.Regions.{plain_region}
use Rattle.lhg_jump.specs.PlantLists.{AreOver}
use Rattle.lhg_jump.proofs.RangeSteps.{IsRanging}
use Rattle.lhg_forward.specs.Growth.{joined_at}
use Rattle.lhg_forward.proofs.joining.joined.Given as goal

abbrev pub invariant-loop-l : goal.invariant-loop-l
invariant-loop-l l = record {
  built : IsRanging (joined_at (plain_region l.region) (plain_region l.new)) (length l.plant.locs.items) (plain_region l.out.items) l.l;
  vars : AreOver l.plant l.out.items;
  many : length l.out.items ≡ l.l;
}
