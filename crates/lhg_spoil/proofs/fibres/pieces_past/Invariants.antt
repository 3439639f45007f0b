use Rattle.std.proofs.Common.{◌≡◌, ℕ, take}
use Rattle.lhg_union.specs.PolyLists.{lines_of, AllVars}
use Rattle.lhg_loss.specs.Records.{pieces_lost}
use Rattle.lhg_loss.specs.Views.{plain_losses, AllHaveVars}
use Rattle.lhg_spoil.specs.Fibres.{losses_past}
use Rattle.lhg_spoil.proofs.fibres.pieces_past.Given as goal

abbrev pub invariant-loop-loss : goal.invariant-loop-loss
invariant-loop-loss l =
    (lines_of l.out.items ≡ pieces_lost (losses_past l.loc l.j (plain_losses (take l.loss-index l.losses)))) × ((n : ℕ) → AllHaveVars n l.losses → AllVars n l.out.items)
