use Rattle.std.proofs.Common.{length}
use Rattle.lhg_lex.specs.Reading.{left_of}
use Rattle.lhg_plant.specs.Views.{plain_plant}
use Rattle.lhg_ctl.specs.LogViews.{plain_open_log}
use Rattle.lhg_ctl.proofs.LogSteps.{LogSoFar}
use Rattle.lhg_ctl.proofs.logs.read_log.Given as goal

abbrev pub invariant-loop-log : goal.invariant-loop-log
invariant-loop-log l = LogSoFar (plain_plant l.plant) l.fn.lines l.lines (plain_open_log l.log)

abbrev pub decreases-loop-log : goal.decreases-loop-log
decreases-loop-log l = length (left_of l.lines)
