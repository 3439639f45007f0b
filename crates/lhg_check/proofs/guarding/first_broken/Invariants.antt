use Rattle.lhg_plant.specs.Views.{plain_plant}
use Rattle.lhg_union.specs.Regions.{plain_region}
use Rattle.lhg_ctl.specs.Views.{plain_controller}
use Rattle.lhg_check.proofs.FirstSteps.{IsClear}
use Rattle.lhg_check.proofs.GuardSteps.{at_each}
use Rattle.lhg_check.proofs.guarding.first_broken.Given as goal

abbrev pub invariant-loop-e : goal.invariant-loop-e
invariant-loop-e l = IsClear (at_each (plain_plant l.plant) (plain_controller l.controller) (plain_region l.away.pieces.items) (plain_region l.invs)).value l.e
