use Rattle.std.proofs.Common.{◌≡◌, ◌≤◌, ◌+◌, ◌*◌, ◌++◌, ℕ, [], false, length}
use Rattle.lhg_row.specs.Lists.{is_past_list}
use Rattle.lhg_union.specs.PolyLists.{lines_of, AllVars}
use Rattle.lhg_reach.specs.FoundParts.{plain_founds, AllFoundVars}
use Rattle.lhg_reach.specs.Neighbours.{pair_count}
use Rattle.lhg_reach.specs.Newest.{IsNewest}
use Rattle.lhg_reach.specs.Searching.{IsSearch}
use Rattle.lhg_reach.specs.Widths.{AllOverVars}
use Rattle.lhg_reach.proofs.Growing.{IsReaching}
use Rattle.lhg_reach.proofs.reaching.reach.Given as goal

abbrev pub invariant-loop-layers : goal.invariant-loop-layers
invariant-loop-layers g l = record {
  reaching : (n : ℕ) → AllOverVars n l.bad l.near l.flow → IsReaching g.N.Scalar.arithmetic n l.flow (lines_of l.bad) (lines_of l.near) l.layers (plain_founds l.found.items);
  search : IsSearch (lines_of l.bad) l.search.known.items l.found.items;
  none : l.search.found.items ≡ [];
  vars : (n : ℕ) → AllOverVars n l.bad l.near l.flow → AllVars n l.search.known.items;
  found : (n : ℕ) → AllOverVars n l.bad l.near l.flow → AllFoundVars n l.found.items;
  within : is_past_list (lines_of l.search.known.items) ≡ false;
  many : l.layers ≤ length l.found.items;
  tally : l.fn.tally ≤ l.tally;
  newest : (n : ℕ) → AllOverVars n l.bad l.near l.flow → IsNewest n (lines_of l.near) (lines_of l.bad ++ lines_of l.near) (lines_of l.search.known.items) l.flow l.first;
  count : (n : ℕ) → AllOverVars n l.bad l.near l.flow → l.tally ≤ l.fn.tally + l.first * pair_count g.N.Scalar.arithmetic n (lines_of l.near) (lines_of l.bad ++ lines_of l.near);
}
