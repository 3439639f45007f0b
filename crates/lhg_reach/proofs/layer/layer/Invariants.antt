use Rattle.std.proofs.Common.{◌≤◌, ◌+◌, ◌*◌, ℕ, drop, length, []}
use Rattle.lhg_motion.specs.ReachCalculus.{from_near, numbered}
use Rattle.lhg_union.specs.PolyLists.{lines_of, AllVars}
use Rattle.lhg_reach.specs.FoundParts.{AllFoundVars}
use Rattle.lhg_reach.specs.Neighbours.{pair_count}
use Rattle.lhg_reach.specs.Searching.{IsSearch}
use Rattle.lhg_reach.specs.Widths.{AllThree}
use Rattle.lhg_reach.proofs.Searches.{IsSearching}
use Rattle.lhg_reach.proofs.layer.layer.Given as goal

abbrev pub invariant-loop-place : goal.invariant-loop-place
invariant-loop-place g l = record {
  walking : (n : ℕ) → AllThree n l.near l.ways l.fn.search.known.items l.flow
      → IsSearching (from_near g.N.Scalar.arithmetic n l.flow (lines_of l.fn.search.known.items) l.number (lines_of l.near) (numbered 0 (lines_of l.ways))) (numbered l.first (lines_of (drop l.first l.fn.search.known.items))) [] (lines_of l.fn.search.known.items) l.search.known.items l.search.found.items (numbered l.place (lines_of (drop l.place l.fn.search.known.items)));
  search : IsSearch (lines_of l.fn.search.known.items) l.search.known.items l.search.found.items;
  vars : (n : ℕ) → AllThree n l.near l.ways l.fn.search.known.items l.flow → AllVars n l.search.known.items;
  found : (n : ℕ) → AllThree n l.near l.ways l.fn.search.known.items l.flow → AllFoundVars n l.search.found.items;
  tally : l.fn.tally ≤ l.tally;
  upto : l.place ≤ length l.fn.search.known.items;
  count : (n : ℕ) → AllThree n l.near l.ways l.fn.search.known.items l.flow → l.tally + l.first * pair_count g.N.Scalar.arithmetic n (lines_of l.near) (lines_of l.ways) ≤ l.fn.tally + l.place * pair_count g.N.Scalar.arithmetic n (lines_of l.near) (lines_of l.ways);
}
