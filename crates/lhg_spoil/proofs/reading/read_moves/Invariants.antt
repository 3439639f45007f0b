use Rattle.std.proofs.Common.{length}
use Rattle.lhg_lex.specs.Reading.{left_of}
use Rattle.lhg_plant.specs.Views.{plain_plant}
use Rattle.lhg_spoil.specs.OpenViews.{plain_open_moves}
use Rattle.lhg_spoil.proofs.MovesReading.{MovesSoFar}
use Rattle.lhg_spoil.proofs.reading.read_moves.Given as goal

abbrev pub invariant-loop-read : goal.invariant-loop-read
invariant-loop-read l = MovesSoFar (plain_plant l.plant) l.fn.lines l.lines (plain_open_moves l.read)

abbrev pub decreases-loop-read : goal.decreases-loop-read
decreases-loop-read l = length (left_of l.lines)
