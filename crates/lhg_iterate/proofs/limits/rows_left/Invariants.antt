use Rattle.std.proofs.Common.{◌≡◌, ◌+◌, drop}
use Rattle.lhg_loss.specs.Records.{loss_rows}
use Rattle.lhg_loss.specs.Views.{plain_losses}
use Rattle.lhg_iterate.proofs.limits.rows_left.Given as goal

abbrev pub invariant-loop-loss : goal.invariant-loop-loss
invariant-loop-loss l = l.left + loss_rows (plain_losses l.losses) ≡ l.most + loss_rows (plain_losses (drop l.loss-index l.losses))
