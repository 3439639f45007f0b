use Rattle.std.proofs.Common.{◌≤◌, ◌+◌, List, drop}
use Rattle.lhg_row.specs.Piece.{PlainPiece}
use Rattle.lhg_motion.specs.ReachCalculus.{through_ways, numbered}
use Rattle.lhg_union.specs.PolyLists.{lines_of, AllVars}
use Rattle.lhg_reach.specs.FoundParts.{plain_founds, AllFoundVars}
use Rattle.lhg_reach.specs.Neighbours.{pair_count}
use Rattle.lhg_reach.specs.Searching.{IsSearch}
use Rattle.lhg_reach.proofs.Searches.{IsSearching}
use Rattle.lhg_reach.proofs.layer.from_near.Given as goal

abbrev pub invariant-loop-j : goal.invariant-loop-j
invariant-loop-j g l = record {
  walking : (base : List PlainPiece) → IsSearch base l.fn.search.known.items l.fn.search.found.items
      → IsSearching (through_ways g.N.Scalar.arithmetic l.aim.piece.width l.flow base l.aim.layer (numbered 0 (lines_of l.ways)) (record { place = l.aim.place; piece = l.aim.piece.lines })) (lines_of l.near) (plain_founds l.fn.search.found.items) base l.search.known.items l.search.found.items (lines_of (drop l.j l.near));
  vars : AllVars l.aim.piece.width l.search.known.items;
  found : AllFoundVars l.aim.piece.width l.fn.search.found.items → AllFoundVars l.aim.piece.width l.search.found.items;
  tally : l.fn.tally ≤ l.tally;
  count : l.tally + pair_count g.N.Scalar.arithmetic l.aim.piece.width (lines_of (drop l.j l.near)) (lines_of l.ways) ≤ l.fn.tally + pair_count g.N.Scalar.arithmetic l.aim.piece.width (lines_of l.near) (lines_of l.ways);
}
