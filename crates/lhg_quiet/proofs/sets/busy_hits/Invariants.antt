use Rattle.std.proofs.Common.{◌≡◌, length, map}
use Rattle.lhg_math.specs.Tests.{AllOf}
use Rattle.lhg_union.specs.Regions.{plain_region}
use Rattle.lhg_plant.specs.Views.{plain_plant}
use Rattle.lhg_jump.specs.HitViews.{plain_hits, HasVars}
use Rattle.lhg_jump.proofs.RangeSteps.{IsRanging}
use Rattle.lhg_quiet.specs.Masked.{busy_hits_at}
use Rattle.lhg_quiet.proofs.sets.busy_hits.Given as goal

abbrev pub invariant-loop-l : goal.invariant-loop-l
invariant-loop-l l = record {
  built : IsRanging (busy_hits_at (plain_plant l.plant) l.quiet (plain_region l.invs) (plain_region l.away) (plain_region l.region)) (length (plain_plant l.plant).locs) (map (λ hs. plain_hits hs.items) l.hits.items) l.l;
  vars : AllOf (λ hs. AllOf (HasVars (length l.plant.vars.items)) hs.items) l.hits.items;
  many : length l.hits.items ≡ l.l;
}
