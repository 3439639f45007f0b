-- What may the calls of a run answer?
use Rattle.std.specs.Prelude.{◌≡◌, ℕ, zero, suc, List, [], take, Result, Ok, Err}
use Rattle.lhg_num.specs.declared.refusals.Halt.{Halt}
use Rattle.lhg_num.specs.declared.refusals.Halt.TheVariants.{Wide, Rows, Pieces, Memory}
use Rattle.lhg_plant.specs.Plant.{PlainPlant}
use Rattle.lhg_plant.specs.State.{PlainState}
use Rattle.lhg_plant.specs.Region.{InRegion}
use Rattle.lhg_plant.specs.Controller.{PlainController}
use Rattle.lhg_plant.specs.Pick.{picks}
use Rattle.lhg_plant.specs.Run.{PlainEntry, PlainStep, RunPlace, IsRun}
use Rattle.lhg_plant.specs.Log.{IsLegalLog, EachVisited}

-- an answer has the fact P; a halt for a number or for rows comes only for its cause
abbrev pub IsAnswered : {T : Type 0} → Result T Halt → (T → Type 0) → Type 0 → Type 0 → Type 0
IsAnswered (Ok x) P wide rows = P x
IsAnswered (Err Wide) P wide rows = wide
IsAnswered (Err Rows) P wide rows = rows
IsAnswered (Err Pieces) P wide rows = ⊥
IsAnswered (Err Memory) P wide rows = Unit {0}

-- the trace is that of a run of the whole log, which is legal, and all states that it visits are in the region
pub record IsTraceOf (a : PlainPlant) (c : PlainController) (start : PlainState) (entries : List PlainEntry) (trace : List PlainStep) : Type 0 where
  pub last : RunPlace
  pub run : IsRun (picks a c.region) a c start entries trace last
  pub legal : IsLegalLog (picks a c.region) a c start entries
  pub inside : EachVisited (InRegion a c.region) start trace

-- the trace of the entries before entry k, counted from 1; before the start, 0, there is none
abbrev pub IsTraceBefore : PlainPlant → PlainController → PlainState → List PlainEntry → ℕ → List PlainStep → Type 0
IsTraceBefore a c start entries zero trace = trace ≡ []
IsTraceBefore a c start entries (suc k) trace = (last : RunPlace) × IsRun (picks a c.region) a c start (take k entries) trace last
