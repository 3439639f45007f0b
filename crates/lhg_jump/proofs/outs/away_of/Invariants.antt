use Rattle.std.proofs.Common.{◌≡◌, length}
use Rattle.lhg_jump.specs.PlantLists.{AreOver}
use Rattle.lhg_union.specs.Regions.{plain_region}
use Rattle.lhg_plant.specs.OutCalculus.{away_at}
use Rattle.lhg_jump.proofs.RangeSteps.{IsRanging}
use Rattle.lhg_jump.proofs.outs.away_of.Given as goal

abbrev pub invariant-loop-l : goal.invariant-loop-l
invariant-loop-l l = record {
  built : IsRanging (away_at (length l.plant.vars.items) (plain_region l.invs) (plain_region l.region)) (length l.invs) (plain_region l.away.items) l.l;
  vars : AreOver l.plant l.away.items;
  many : length l.away.items ≡ l.l;
}
