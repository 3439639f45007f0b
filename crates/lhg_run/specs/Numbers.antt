-- At which entry may a run be refused a number or a list of rows: which ones does it form there?
use Rattle.std.specs.Prelude.{◌≡◌, ◌⊎◌, ℕ, zero, suc, Bool, true, List, [], take, None, Some, get_or, slice_get}
use Rattle.lhg_math.specs.Number.{Number}
use Rattle.lhg_num.specs.FracArithmetic.{frac_arithmetic}
use Rattle.lhg_num.specs.Marked.{Marked, and_then, marked_mul}
use Rattle.lhg_row.specs.Row.{PlainPoint}
use Rattle.lhg_row.specs.Truths.{piece_truth, some_truth}
use Rattle.lhg_play.specs.Cut.{cut, point_at}
use Rattle.lhg_plant.specs.declared.plants.Side.TheVariants.{Env, Pick}
use Rattle.lhg_plant.specs.Plant.{PlainPlant}
use Rattle.lhg_plant.specs.State.{PlainState}
use Rattle.lhg_plant.specs.Legal.{LegalFlow, HasSide}
use Rattle.lhg_plant.specs.LegalTruths.{legal_flow_truth, legal_switch_truth}
use Rattle.lhg_plant.specs.Controller.{PlainController}
use Rattle.lhg_plant.specs.Pick.{picked_result, picks}
use Rattle.lhg_plant.specs.Run.{PlainEntry, flow_entry, env_entry, land_entry, PlainStep, RunPlace, run_rows, IsCheckOf, state_along, StopsAt, IsRun}

-- whether the rows of the region's pieces in the location hold at the state
abbrev pub region_truth : PlainController → PlainState → Marked Bool
region_truth c s = some_truth frac_arithmetic (get_or c.region s.loc []) s.at

-- the point at a place, and whether the rows of the region and of the guards in the location hold there
abbrev pub sight : PlainPlant → PlainController → PlainState → PlainPoint → Number → Marked Bool
sight a c s y p = and_then (point_at s.at y p) (piece_truth frac_arithmetic (run_rows a c s.loc))

-- a number of the point at some check point, or of the rows there, is refused
pub record HasWideSight (a : PlainPlant) (c : PlainController) (s : PlainState) (y : PlainPoint) : Type 0 where
  pub place : Number
  pub check : IsCheckOf a c s y place
  pub wide : (sight a c s y place).wide ≡ true

-- the time up to the switch is refused, or a number by which its result is picked
pub record HasWideStop (a : PlainPlant) (c : PlainController) (s : PlainState) (t : Number) (y : PlainPoint) : Type 0 where
  pub place : Number
  pub switch : ℕ
  pub stops : StopsAt a c s y place switch
  pub wide : ((marked_mul frac_arithmetic place t).wide ≡ true) ⊎ (HasSide a switch Pick × ((picked_result a c.region switch (state_along s y place)).wide ≡ true))

-- a list of rows by which the result of the switch is picked is too long
pub record HasLongStop (a : PlainPlant) (c : PlainController) (s : PlainState) (y : PlainPoint) : Type 0 where
  pub place : Number
  pub switch : ℕ
  pub stops : StopsAt a c s y place switch
  pub side : HasSide a switch Pick
  pub rows : (picked_result a c.region switch (state_along s y place)).rows ≡ true

-- a number of a legal flow is refused: of its check points, of what is seen there, or of the switch
abbrev pub IsWideWay : PlainPlant → PlainController → PlainState → Number → PlainPoint → Type 0
IsWideWay a c s t y = ((cut s.at y (run_rows a c s.loc)).wide ≡ true) ⊎ (HasWideSight a c s y ⊎ HasWideStop a c s t y)

-- a number of a flow is refused: one that tells whether it is legal, or where it is, one of its way
abbrev pub IsWideFlow : PlainPlant → PlainController → PlainState → Number → PlainPoint → Type 0
IsWideFlow a c s t y = ((legal_flow_truth frac_arithmetic a s t y).wide ≡ true) ⊎ (LegalFlow a s t y × IsWideWay a c s t y)

-- a number that tells whether a switch to the point is legal is refused
abbrev pub IsWideSwitch : PlainPlant → PlainState → ℕ → PlainPoint → Type 0
IsWideSwitch a s e y = (legal_switch_truth frac_arithmetic a e s y).wide ≡ true

-- a number of the entry is refused where the run stands
abbrev pub IsWideEntry : PlainPlant → PlainController → RunPlace → PlainEntry → Type 0
IsWideEntry a c r (flow_entry t y) = (r.pending ≡ None) × IsWideFlow a c r.state t y
IsWideEntry a c r (env_entry e y) = (r.pending ≡ None) × HasSide a e Env × IsWideSwitch a r.state e y
IsWideEntry a c r (land_entry y) = (e : ℕ) × (r.pending ≡ Some e) × IsWideSwitch a r.state e y

-- a list of rows of the entry is too long where the run stands: only that of a switch of side `pick` may be
abbrev pub IsLongEntry : PlainPlant → PlainController → RunPlace → PlainEntry → Type 0
IsLongEntry a c r (flow_entry t y) = (r.pending ≡ None) × LegalFlow a r.state t y × HasLongStop a c r.state y
IsLongEntry a c r (env_entry e y) = ⊥
IsLongEntry a c r (land_entry y) = ⊥

-- the run of the first k entries ends at the place
pub record StandsAt (a : PlainPlant) (c : PlainController) (start : PlainState) (entries : List PlainEntry) (k : ℕ) (r : RunPlace) : Type 0 where
  pub trace : List PlainStep
  pub run : IsRun (picks a c.region) a c start (take k entries) trace r

-- entry k, counted from 0, has the fact where the run stands at its turn
pub record AtTurn (a : PlainPlant) (c : PlainController) (start : PlainState) (entries : List PlainEntry) (k : ℕ) (P : RunPlace → PlainEntry → Type 0) : Type 0 where
  pub entry : PlainEntry
  pub is_there : slice_get entries k ≡ Some entry
  pub place : RunPlace
  pub stands : StandsAt a c start entries k place
  pub fact : P place entry

-- a number is refused at the start, 0, or at an entry, counted from 1
abbrev pub IsWideAt : PlainPlant → PlainController → PlainState → List PlainEntry → ℕ → Type 0
IsWideAt a c start entries zero = (region_truth c start).wide ≡ true
IsWideAt a c start entries (suc k) = AtTurn a c start entries k (IsWideEntry a c)

-- a list of rows is too long at an entry, counted from 1
abbrev pub IsLongAt : PlainPlant → PlainController → PlainState → List PlainEntry → ℕ → Type 0
IsLongAt a c start entries zero = ⊥
IsLongAt a c start entries (suc k) = AtTurn a c start entries k (IsLongEntry a c)
