use Rattle.std.proofs.Common.{◌≤◌, ◌+◌, List, drop}
use Rattle.lhg_row.specs.Piece.{PlainPiece}
use Rattle.lhg_motion.specs.ReachCalculus.{attempt, numbered}
use Rattle.lhg_union.specs.PolyLists.{lines_of, AllVars}
use Rattle.lhg_reach.specs.FoundParts.{plain_founds, AllFoundVars}
use Rattle.lhg_reach.specs.Neighbours.{ways_count}
use Rattle.lhg_reach.specs.Searching.{IsSearch}
use Rattle.lhg_reach.proofs.Searches.{IsSearching}
use Rattle.lhg_reach.proofs.layer.through_ways.Given as goal

abbrev pub invariant-loop-i : goal.invariant-loop-i
invariant-loop-i g l = record {
  walking : (base : List PlainPiece) → IsSearch base l.fn.search.known.items l.fn.search.found.items
      → IsSearching (attempt g.N.Scalar.arithmetic l.from.width l.flow base l.aim.layer (record { place = l.aim.place; piece = l.aim.piece.lines }) l.from.lines) (numbered 0 (lines_of l.ways)) (plain_founds l.fn.search.found.items) base l.search.known.items l.search.found.items (numbered l.i (lines_of (drop l.i l.ways)));
  vars : AllVars l.from.width l.search.known.items;
  found : AllFoundVars l.from.width l.fn.search.found.items → AllFoundVars l.from.width l.search.found.items;
  tally : l.fn.tally ≤ l.tally;
  count : l.tally + ways_count g.N.Scalar.arithmetic l.from.width l.from.lines (lines_of (drop l.i l.ways)) ≤ l.fn.tally + ways_count g.N.Scalar.arithmetic l.from.width l.from.lines (lines_of l.ways);
}
