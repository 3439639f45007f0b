use Rattle.std.proofs.Common.{◌≡◌, ◌++◌, ℕ, drop}
use Rattle.lhg_union.specs.PolyLists.{lines_of, AllVars}
use Rattle.lhg_loss.specs.Records.{pieces_lost}
use Rattle.lhg_loss.specs.Views.{plain_losses, AllHaveVars}
use Rattle.lhg_iterate.proofs.places.pieces_lost.Given as goal

abbrev pub invariant-loop-loss : goal.invariant-loop-loss
invariant-loop-loss l = record {
  pieces : lines_of l.lost.items ++ pieces_lost (plain_losses (drop l.loss-index l.losses)) ≡ pieces_lost (plain_losses l.losses);
  vars : (n : ℕ) → AllHaveVars n l.losses → AllVars n l.lost.items;
}
