-- What does a controller do with a list of entries, whatever legal results it chooses: what is its run?
use Rattle.std.specs.Prelude.{◌≡◌, ◌⊎◌, ◌<◌, ℕ, true, cond, nat_eq, List, [], ◌∷◌, ◌++◌, Option, Some, None, get_or}
use Rattle.lhg_math.specs.Number.{Number, mul, lt, nought}
use Rattle.lhg_row.specs.Row.{PlainPoint, PlainRow}
use Rattle.lhg_motion.specs.Segment.{along}
use Rattle.lhg_motion.specs.CheckPoint.{rows_of, IsCheckPoint}
use Rattle.lhg_plant.specs.declared.plants.Side.TheVariants.{Ctl, Env, Pick}
use Rattle.lhg_plant.specs.Plant.{PlainPlant, PlainSwitch}
use Rattle.lhg_plant.specs.State.{PlainState, moved_to}
use Rattle.lhg_plant.specs.Legal.{LegalFlow, LegalSwitch, HasSide}
use Rattle.lhg_plant.specs.Region.{PlainGuards, InRegion, InGuard}
use Rattle.lhg_plant.specs.Controller.{PlainController}
use Rattle.lhg_plant.specs.Choice.{result_at, Choice}

-- one entry of a log: a flow with its time and its end; an uncontrollable switch and its result; the result of the switch
-- that is pending
pub data PlainEntry : Type 0 where
  flow_entry : (time : Number) → (to : PlainPoint) → PlainEntry
  env_entry : (switch : ℕ) → (to : PlainPoint) → PlainEntry
  land_entry : (to : PlainPoint) → PlainEntry

-- one step of a trace: the start, a flow as far as it was run, a controllable switch, its result, an uncontrollable switch
pub data PlainStep : Type 0 where
  started : (state : PlainState) → PlainStep
  flowed : (time : Number) → (to : PlainPoint) → PlainStep
  switched : (switch : ℕ) → PlainStep
  landed : (state : PlainState) → PlainStep
  env_switched : (switch : ℕ) → (to : PlainState) → PlainStep

-- where a run stands: its state, and the switch that is pending
pub record RunPlace : Type 0 where
  pub state : PlainState
  pub pending : Option ℕ

-- at a state, with no switch pending
abbrev pub resting : PlainState → RunPlace
resting s = record { state = s; pending = None }

-- the rows of the guards of the switches that leave the location
abbrev pub guard_rows : List PlainSwitch → PlainGuards → ℕ → List PlainRow
guard_rows [] gs l = []
guard_rows (w ∷ ws) [] l = []
guard_rows (w ∷ ws) (g ∷ gs) l = cond (nat_eq w.from l) (rows_of g) [] ++ guard_rows ws gs l

-- the rows of the region in the location, then those of its guards
abbrev pub run_rows : PlainPlant → PlainController → ℕ → List PlainRow
run_rows a c l = rows_of (get_or c.region l []) ++ guard_rows a.switches c.guards l

-- the check points of a flow from s to y
abbrev pub IsCheckOf : PlainPlant → PlainController → PlainState → PlainPoint → Number → Type 0
IsCheckOf a c s y p = IsCheckPoint (run_rows a c s.loc) s.at y p

-- the state at the place p on the way from s to y
abbrev pub state_along : PlainState → PlainPoint → Number → PlainState
state_along s y p = moved_to s (along s.at y p)

-- all check points are in the region
abbrev pub PassesWhole : PlainPlant → PlainController → PlainState → PlainPoint → Type 0
PassesWhole a c s y = (p : Number) → IsCheckOf a c s y p → InRegion a c.region (state_along s y p)

-- p is the first check point outside the region
pub record IsFirstOutside (a : PlainPlant) (c : PlainController) (s : PlainState) (y : PlainPoint) (p : Number) : Type 0 where
  pub check : IsCheckOf a c s y p
  pub outside : ¬ InRegion a c.region (state_along s y p)
  pub before : (q : Number) → IsCheckOf a c s y q → lt q p ≡ true → InRegion a c.region (state_along s y q)

-- e is the first switch in the plant's order whose guard holds at the state
pub record IsFirstGuard (a : PlainPlant) (guards : PlainGuards) (s : PlainState) (e : ℕ) : Type 0 where
  pub holds : InGuard a guards e s
  pub before : (d : ℕ) → d < e → ¬ InGuard a guards d s

-- p is the last check point that is before the first one outside the region and at which a guard holds, and e is the first
-- switch whose guard holds there
pub record StopsAt (a : PlainPlant) (c : PlainController) (s : PlainState) (y : PlainPoint) (p : Number) (e : ℕ) : Type 0 where
  pub end_place : Number
  pub first : IsFirstOutside a c s y end_place
  pub check : IsCheckOf a c s y p
  pub before : lt p end_place ≡ true
  pub guard : IsFirstGuard a c.guards (state_along s y p) e
  pub last : (q : Number) (d : ℕ) → IsCheckOf a c s y q → lt p q ≡ true → lt q end_place ≡ true → ¬ InGuard a c.guards d (state_along s y q)

-- the entry is legal where the run stands: a flow or an uncontrollable switch where none is pending, a result where one is
abbrev pub IsLegalEntry : PlainPlant → RunPlace → PlainEntry → Type 0
IsLegalEntry a r (flow_entry t y) = (r.pending ≡ None) × LegalFlow a r.state t y
IsLegalEntry a r (env_entry e y) = (r.pending ≡ None) × HasSide a e Env × LegalSwitch a e r.state (result_at a e y)
IsLegalEntry a r (land_entry y) = (e : ℕ) × (r.pending ≡ Some e) × LegalSwitch a e r.state (result_at a e y)

-- the flow as far as the place p, which takes p times its time; at the place 0 there is no step
abbrev pub run_flow : PlainState → Number → PlainPoint → Number → List PlainStep
run_flow s t y p = cond (lt nought p) (flowed (mul p t) (along s.at y p) ∷ []) []

-- the flow passes whole
pub record PassesFlow (a : PlainPlant) (c : PlainController) (s : PlainState) (t : Number) (y : PlainPoint) (steps : List PlainStep) (next : RunPlace) : Type 0 where
  pub whole : PassesWhole a c s y
  pub does : steps ≡ flowed t y ∷ []
  pub goes : next ≡ resting (moved_to s y)

-- the controller stops the flow by a switch of side `ctl`, which is then pending
pub record StopsFlow (a : PlainPlant) (c : PlainController) (s : PlainState) (t : Number) (y : PlainPoint) (steps : List PlainStep) (next : RunPlace) : Type 0 where
  pub place : Number
  pub switch : ℕ
  pub stops : StopsAt a c s y place switch
  pub side : HasSide a switch Ctl
  pub does : steps ≡ run_flow s t y place ++ (switched switch ∷ [])
  pub goes : next ≡ record { state = state_along s y place; pending = Some switch }

-- the controller stops the flow by a switch of side `pick` and gives the result that it chooses at once, so that none is pending
pub record PicksFlow (choice : Choice) (a : PlainPlant) (c : PlainController) (s : PlainState) (t : Number) (y : PlainPoint) (steps : List PlainStep) (next : RunPlace) : Type 0 where
  pub place : Number
  pub switch : ℕ
  pub stops : StopsAt a c s y place switch
  pub side : HasSide a switch Pick
  pub result : PlainPoint
  pub picks : choice switch (state_along s y place) ≡ Some result
  pub does : steps ≡ run_flow s t y place ++ (switched switch ∷ landed (result_at a switch result) ∷ [])
  pub goes : next ≡ resting (result_at a switch result)

-- what an entry does: the steps of the trace, and where the run stands after it
abbrev pub DoesEntry : Choice → PlainPlant → PlainController → RunPlace → PlainEntry → List PlainStep → RunPlace → Type 0
DoesEntry choice a c r (flow_entry t y) steps next = PassesFlow a c r.state t y steps next ⊎ (StopsFlow a c r.state t y steps next ⊎ PicksFlow choice a c r.state t y steps next)
DoesEntry choice a c r (env_entry e y) steps next = (steps ≡ env_switched e (result_at a e y) ∷ []) × (next ≡ resting (result_at a e y))
DoesEntry choice a c r (land_entry y) steps next = (e : ℕ) × (r.pending ≡ Some e) × (steps ≡ landed (result_at a e y) ∷ []) × (next ≡ resting (result_at a e y))

-- the run of the entries, each legal at its turn, with its trace and where it ends
abbrev pub RunsFrom : Choice → PlainPlant → PlainController → RunPlace → List PlainEntry → List PlainStep → RunPlace → Type 0
RunsFrom choice a c r [] trace last = (trace ≡ []) × (last ≡ r)
RunsFrom choice a c r (entry ∷ rest) trace last =
    (steps : List PlainStep) × (next : RunPlace) × (more : List PlainStep)
    × IsLegalEntry a r entry × DoesEntry choice a c r entry steps next × RunsFrom choice a c next rest more last × (trace ≡ steps ++ more)

-- the run from a start in the region
pub record IsRun (choice : Choice) (a : PlainPlant) (c : PlainController) (start : PlainState) (entries : List PlainEntry) (trace : List PlainStep) (last : RunPlace) : Type 0 where
  pub starts : InRegion a c.region start
  pub steps : List PlainStep
  pub runs : RunsFrom choice a c (resting start) entries steps last
  pub whole : trace ≡ started start ∷ steps
