use Rattle.std.proofs.Common.{take}
use Rattle.lhg_plant.specs.Views.{plain_plant, plain_state}
use Rattle.lhg_play.specs.Views.{plain_steps}
use Rattle.lhg_ctl.specs.Views.{plain_controller}
use Rattle.lhg_run.specs.Seen.{running_place}
use Rattle.lhg_run.specs.Views.{plain_entries}
use Rattle.lhg_run.proofs.RunSteps.{IsRunning}
use Rattle.lhg_run.proofs.runs.run.Given as goal

abbrev pub invariant-loop-i : goal.invariant-loop-i
invariant-loop-i l = IsRunning (plain_plant l.plant) (plain_controller l.controller) (plain_state l.start) (take l.i (plain_entries l.log)) (plain_steps l.running.steps.items) (running_place l.running)
