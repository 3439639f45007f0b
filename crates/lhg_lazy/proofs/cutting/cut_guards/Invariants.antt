use Rattle.std.proofs.Common.{◌≡◌, length}
use Rattle.lhg_plant.specs.Views.{plain_plant}
use Rattle.lhg_union.specs.Regions.{plain_region}
use Rattle.lhg_jump.specs.PlantLists.{AreOver}
use Rattle.lhg_jump.proofs.RangeSteps.{IsRanging}
use Rattle.lhg_lazy.specs.RimCalculus.{cut_at}
use Rattle.lhg_lazy.proofs.cutting.cut_guards.Given as goal

abbrev pub invariant-loop-e : goal.invariant-loop-e
invariant-loop-e l = record {
  built : IsRanging (cut_at (plain_plant l.plant) (plain_region l.guards) (plain_region l.rim)) (length (plain_plant l.plant).switches) (plain_region l.cut.items) l.e;
  vars : AreOver l.plant l.cut.items;
  many : length l.cut.items ≡ l.e;
}
