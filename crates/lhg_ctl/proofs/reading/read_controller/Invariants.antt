use Rattle.std.proofs.Common.{length}
use Rattle.lhg_lex.specs.Reading.{left_of}
use Rattle.lhg_plant.specs.Views.{plain_plant}
use Rattle.lhg_read.specs.Machine.{Between}
use Rattle.lhg_ctl.specs.ControllerSteps.{PlainOpen}
use Rattle.lhg_ctl.specs.Counted.{IsCounted}
use Rattle.lhg_ctl.specs.Views.{plain_open}
use Rattle.lhg_ctl.proofs.ControllerMachine.{begin_at}
use Rattle.lhg_ctl.proofs.ControllerRuns.{is_ended, taken_at}
use Rattle.lhg_ctl.proofs.reading.read_controller.Given as goal

abbrev pub invariant-loop-draft : goal.invariant-loop-draft
invariant-loop-draft l = record {
  between : Between PlainOpen begin_at (taken_at (plain_plant l.plant)) is_ended l.fn.lines l.lines (plain_open l.draft);
  counted : IsCounted l.plant l.draft;
}

abbrev pub decreases-loop-draft : goal.decreases-loop-draft
decreases-loop-draft l = length (left_of l.lines)
