use Rattle.lhg_plant.specs.Views.{plain_plant}
use Rattle.lhg_loss.specs.Views.{plain_losses}
use Rattle.lhg_play.specs.Views.{plain_moves}
use Rattle.lhg_explain.proofs.WaySteps.{IsOnWay}
use Rattle.lhg_explain.proofs.explaining.way_from.Given as goal

abbrev pub invariant-loop-i : goal.invariant-loop-i
invariant-loop-i l = IsOnWay (plain_plant l.plant) (plain_losses l.losses) l.number l.x l.i l.m (plain_moves l.moves.items)
