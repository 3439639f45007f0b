use Rattle.std.proofs.Common.{length}
use Rattle.lhg_plant.specs.Invariants.{pieces_at}
use Rattle.lhg_union.specs.PolyLists.{lines_of, AllVars}
use Rattle.lhg_union.specs.Regions.{plain_region}
use Rattle.lhg_jump.proofs.NearSteps.{IsNearBefore}
use Rattle.lhg_jump.proofs.near.near_at.Given as goal

abbrev pub invariant-loop-e : goal.invariant-loop-e
invariant-loop-e l = record {
  near : IsNearBefore (length l.plant.vars.items) l.l (pieces_at (plain_region l.region.pieces.items) l.l) l.plant.switches.items l.lists l.e (lines_of l.near.items);
  vars : AllVars (length l.plant.vars.items) l.near.items;
}
