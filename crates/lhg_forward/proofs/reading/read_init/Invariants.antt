use Rattle.std.proofs.Common.{length}
use Rattle.lhg_lex.specs.Reading.{left_of}
use Rattle.lhg_plant.specs.Views.{plain_plant}
use Rattle.lhg_forward.specs.InitViews.{plain_open}
use Rattle.lhg_forward.proofs.InitReading.{InitSoFar}
use Rattle.lhg_forward.proofs.reading.read_init.Given as goal

abbrev pub invariant-loop-init : goal.invariant-loop-init
invariant-loop-init l = InitSoFar (plain_plant l.plant) l.fn.lines l.lines (plain_open l.init)

abbrev pub decreases-loop-init : goal.decreases-loop-init
decreases-loop-init l = length (left_of l.lines)
