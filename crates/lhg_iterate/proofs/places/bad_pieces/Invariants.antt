use Rattle.std.proofs.Common.{◌≡◌, ◌++◌, ℕ, drop}
use Rattle.lhg_math.specs.Tests.{AllOf}
use Rattle.lhg_plant.specs.OutCalculus.{hit_pieces}
use Rattle.lhg_union.specs.PolyLists.{lines_of, AllVars}
use Rattle.lhg_jump.specs.HitViews.{plain_hits, HasVars}
use Rattle.lhg_iterate.proofs.places.bad_pieces.Given as goal

abbrev pub invariant-loop-hit : goal.invariant-loop-hit
invariant-loop-hit l = record {
  pieces : lines_of l.bad.items ++ hit_pieces (plain_hits (drop l.hit-index l.hits)) ≡ lines_of l.away ++ hit_pieces (plain_hits l.hits);
  vars : (n : ℕ) → AllVars n l.away → AllOf (HasVars n) l.hits → AllVars n l.bad.items;
}
