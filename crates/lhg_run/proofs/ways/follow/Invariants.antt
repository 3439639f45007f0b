use Rattle.std.proofs.Common.{take}
use Rattle.lhg_plant.specs.Views.{plain_plant, plain_state}
use Rattle.lhg_ctl.specs.Views.{plain_controller}
use Rattle.lhg_run.proofs.WaySteps.{IsFollowed}
use Rattle.lhg_run.proofs.ways.follow.Given as goal

abbrev pub invariant-loop-place : goal.invariant-loop-place
invariant-loop-place l = IsFollowed (plain_plant l.plant) (plain_controller l.controller) (plain_state l.from) l.to (take l.place-index l.places) l.last
