use Rattle.lhg_plant.specs.Views.{plain_plant, plain_state}
use Rattle.lhg_loss.specs.Views.{plain_losses}
use Rattle.lhg_spoil.specs.Views.{plain_ctl_moves}
use Rattle.lhg_spoil.proofs.SpoilCall.{IsSpoiling}
use Rattle.lhg_spoil.proofs.spoiling.spoil.Given as goal

abbrev pub invariant-loop-n : goal.invariant-loop-n
invariant-loop-n g l = IsSpoiling (plain_plant l.plant) (plain_losses l.losses) (g.T.Teller.upto l.teller) (plain_state l.start) (plain_ctl_moves l.moves) l.n l.stand
