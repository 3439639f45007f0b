use Rattle.std.proofs.Common.{ℕ, ◌<◌}
use Rattle.lhg_plant.specs.Views.{plain_plant}
use Rattle.lhg_jump.specs.OutViews.{plain_outs}
use Rattle.lhg_ctl.specs.Views.{plain_controller}
use Rattle.lhg_check.specs.Check.{lost_pieces}
use Rattle.lhg_check.specs.CheckFacts.{IsReachedPast}
use Rattle.lhg_check.proofs.FirstSteps.{IsClear}
use Rattle.lhg_check.proofs.escaping.first_lost.Given as goal

abbrev pub invariant-loop-l : goal.invariant-loop-l
invariant-loop-l l = record {
  clear : IsClear (lost_pieces (plain_plant l.plant) (plain_controller l.controller) (plain_outs l.outs)).value l.l;
  reached : (i : ℕ) → i < l.l → IsReachedPast (plain_plant l.plant) (plain_controller l.controller) (plain_outs l.outs) i;
}
