use Rattle.std.proofs.Common.{drop}
use Rattle.lhg_num.specs.Marked.{IsRest}
use Rattle.lhg_plant.specs.Views.{plain_state}
use Rattle.lhg_loss.specs.Holding.{holding}
use Rattle.lhg_loss.specs.Views.{plain_losses}
use Rattle.lhg_loss.proofs.holding.first_holding.Given as goal

abbrev pub invariant-loop-loss : goal.invariant-loop-loss
invariant-loop-loss l = IsRest (holding (plain_state l.state) (plain_losses l.losses)) (holding (plain_state l.state) (plain_losses (drop l.loss-index l.losses)))
