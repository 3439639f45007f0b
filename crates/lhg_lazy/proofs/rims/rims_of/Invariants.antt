use Rattle.std.proofs.Common.{◌≡◌, length}
use Rattle.lhg_plant.specs.Views.{plain_plant}
use Rattle.lhg_union.specs.Regions.{plain_region}
use Rattle.lhg_jump.specs.PlantLists.{AreOver}
use Rattle.lhg_jump.proofs.RangeSteps.{IsRanging}
use Rattle.lhg_lazy.specs.RimCalculus.{rim_at}
use Rattle.lhg_lazy.proofs.rims.rims_of.Given as goal

abbrev pub invariant-loop-l : goal.invariant-loop-l
invariant-loop-l l = record {
  built : IsRanging (rim_at (plain_plant l.plant) (plain_region l.region) (plain_region l.away)) (length (plain_plant l.plant).locs) (plain_region l.rims.items) l.l;
  vars : AreOver l.plant l.rims.items;
  many : length l.rims.items ≡ l.l;
}
