-- Which halts stop a run, and how?
use Rattle.std.specs.Prelude.{ℕ}
use Rattle.lhg_num.specs.declared.refusals.Halt.{Halt}
use Rattle.lhg_num.specs.declared.refusals.Halt.TheVariants.{Wide, Rows, Pieces, Memory}
use Rattle.lhg_run.specs.declared.stops.RunStop.{RunStop}
use Rattle.lhg_run.specs.declared.stops.RunStop.TheVariants as stop

-- a halt for which a run may stop
abbrev pub IsRunHalt : Halt → Type 0
IsRunHalt Wide = Unit {0}
IsRunHalt Rows = Unit {0}
IsRunHalt Pieces = ⊥
IsRunHalt Memory = Unit {0}

-- the stop for a halt at an entry
abbrev pub stop_for : ℕ → Halt → RunStop
stop_for k Wide = stop.Wide k
stop_for k Rows = stop.Rows k
stop_for k Pieces = stop.Memory
stop_for k Memory = stop.Memory
