use Rattle.std.proofs.Common.{◌≡◌, ℕ, take}
use Rattle.lhg_union.specs.PolyLists.{lines_of, AllVars}
use Rattle.lhg_loss.specs.Records.{pieces_lost}
use Rattle.lhg_loss.specs.Holding.{losses_in}
use Rattle.lhg_loss.specs.Views.{plain_losses, AreOver}
use Rattle.lhg_loss.proofs.covering.pieces_in.Given as goal

abbrev pub invariant-loop-loss : goal.invariant-loop-loss
invariant-loop-loss l =
    (lines_of l.out.items ≡ pieces_lost (losses_in l.loc (plain_losses (take l.loss-index l.losses)))) × ((n : ℕ) → AreOver n l.losses → AllVars n l.out.items)
