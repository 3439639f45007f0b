use Rattle.std.proofs.Common.{◌≡◌, ◌+◌, ◌++◌, ℕ, drop}
use Rattle.lhg_union.specs.PolyLists.{lines_of, AllVars}
use Rattle.lhg_reach.specs.FoundParts.{plain_founds, AllFoundVars}
use Rattle.lhg_loss.specs.Records.{found_losses, found_cause}
use Rattle.lhg_loss.specs.Views.{plain_losses, AllHaveVars}
use Rattle.lhg_iterate.proofs.records.found_losses.Given as goal

abbrev pub invariant-loop-i : goal.invariant-loop-i
invariant-loop-i l = let why = found_cause (lines_of l.away) (lines_of l.ways) l.site.first in record {
  losses : plain_losses l.losses.items ++ found_losses l.site.round l.site.loc why (l.next + l.i) (plain_founds (drop l.i l.found)) ≡ found_losses l.site.round l.site.loc why l.next (plain_founds l.found);
  vars : (n : ℕ) → AllVars n l.away → AllVars n l.ways → AllFoundVars n l.found → AllHaveVars n l.losses.items;
}
