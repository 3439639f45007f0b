-- Why does a run stop?
use Rattle.std.specs.Prelude.{List}
use Rattle.lhg_play.specs.Views.{plain_steps}
use Rattle.lhg_plant.specs.Plant.{PlainPlant}
use Rattle.lhg_plant.specs.State.{PlainState}
use Rattle.lhg_plant.specs.Controller.{PlainController}
use Rattle.lhg_plant.specs.Pick.{picks}
use Rattle.lhg_plant.specs.Run.{PlainEntry}
use Rattle.lhg_plant.specs.Log.{IsFirstIllegal}
use Rattle.lhg_run.specs.Answers.{IsTraceBefore}
use Rattle.lhg_run.specs.Numbers.{IsWideAt, IsLongAt}
use Rattle.lhg_run.specs.declared.stops.RunStop.{RunStop}
use Rattle.lhg_run.specs.declared.stops.RunStop.TheVariants.{Illegal, Wide, Rows, Memory}

-- why a run stops: at the first illegal entry, with the trace before it; for a number or a list of rows of the entry; or for want of
-- memory
abbrev pub IsStop : PlainPlant → PlainController → PlainState → List PlainEntry → RunStop → Type 0
IsStop a c start entries (Illegal k trace) = IsFirstIllegal (picks a c.region) a c start entries k × IsTraceBefore a c start entries k (plain_steps trace.steps.items)
IsStop a c start entries (Wide k) = IsWideAt a c start entries k
IsStop a c start entries (Rows k) = IsLongAt a c start entries k
IsStop a c start entries Memory = Unit {0}
