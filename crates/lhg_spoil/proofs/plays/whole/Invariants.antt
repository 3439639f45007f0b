use Rattle.std.proofs.Common.{◌≡◌, take}
use Rattle.lhg_play.specs.Views.{plain_moves, plain_spoil_steps}
use Rattle.lhg_spoil.specs.Exchange.{run_whole}
use Rattle.lhg_spoil.proofs.plays.whole.Given as goal

abbrev pub invariant-loop-step : goal.invariant-loop-step
invariant-loop-step l = plain_spoil_steps l.steps.items ≡ run_whole (plain_moves (take l.step-index l.moves))
