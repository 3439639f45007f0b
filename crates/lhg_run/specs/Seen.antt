-- What does the controller see at a place of a flow, and what does a flow or a switch do?
use Rattle.std.specs.Prelude.{◌≡◌, ◌<◌, ◌⊎◌, ℕ, Bool, true, false, cond, List, [], ◌∷◌, ◌++◌, length, Option, Some, None}
use Rattle.lhg_math.specs.Number.{Number, mul, lt, nought}
use Rattle.lhg_math.specs.Tests.{AllOf}
use Rattle.lhg_num.specs.FracArithmetic.{frac_arithmetic}
use Rattle.lhg_num.specs.Marked.{marked_mul}
use Rattle.lhg_row.specs.Members.{SomeOf}
use Rattle.lhg_row.specs.Row.{PlainPoint}
use Rattle.lhg_motion.specs.Segment.{along}
use Rattle.lhg_play.specs.Views.{plain_steps}
use Rattle.lhg_plant.specs.declared.plants.Side.TheVariants.{Ctl, Pick}
use Rattle.lhg_plant.specs.Plant.{PlainPlant}
use Rattle.lhg_plant.specs.State.{PlainState, moved_to}
use Rattle.lhg_plant.specs.Legal.{HasSide}
use Rattle.lhg_plant.specs.Pick.{picked_result, picks}
use Rattle.lhg_plant.specs.Region.{PlainGuards, InRegion, InSomeGuard}
use Rattle.lhg_plant.specs.Controller.{PlainController}
use Rattle.lhg_plant.specs.Views.{plain_state}
use Rattle.lhg_plant.specs.Run.{PlainEntry, PlainStep, started, flowed, switched, landed, RunPlace, resting, state_along, PassesWhole, IsFirstGuard, StopsAt, IsLegalEntry, DoesEntry}
use Rattle.lhg_plant.specs.Choice.{result_at}
use Rattle.lhg_run.specs.Views.{plain_place}
use Rattle.lhg_run.specs.declared.doing.Done.{Done}
use Rattle.lhg_run.specs.declared.running.Running.{Running}
use Rattle.lhg_run.specs.declared.sights.Sight.{Sight}
use Rattle.lhg_run.specs.declared.sights.Sight.TheVariants.{Outside, Inside, Guarded}
use Rattle.lhg_run.specs.declared.ways.Stop.{Stop}
use Rattle.lhg_run.specs.declared.ways.Way.{Way}
use Rattle.lhg_run.specs.declared.ways.Way.TheVariants.{Whole, Stopped}

-- the first switch whose guard holds at the state, where some guard does
abbrev pub IsGuardAt : PlainPlant → PlainGuards → PlainState → Option ℕ → Type 0
IsGuardAt a guards s None = ¬ InSomeGuard a guards s
IsGuardAt a guards s (Some e) = IsFirstGuard a guards s e

-- where a run stands
abbrev pub running_place : Running → RunPlace
running_place r = plain_place r.state r.pending

-- what is seen at the place p on the way from s to y
abbrev pub IsSight : PlainPlant → PlainController → PlainState → PlainPoint → Number → Sight → Type 0
IsSight a c s y p Outside = ¬ InRegion a c.region (state_along s y p)
IsSight a c s y p Inside = InRegion a c.region (state_along s y p) × ¬ InSomeGuard a c.guards (state_along s y p)
IsSight a c s y p (Guarded e at) = InRegion a c.region (state_along s y p) × IsFirstGuard a c.guards (state_along s y p) e × (at ≡ along s.at y p)

-- the region does not hold
abbrev pub is_outside : Sight → Bool
is_outside Outside = true
is_outside Inside = false
is_outside (Guarded e at) = false

-- the stop so far, or a later one where a guard holds at the place p
abbrev pub later : Option Stop → Number → Sight → Option Stop
later last p Outside = last
later last p Inside = last
later last p (Guarded e at) = Some (record { place = p; at = at; switch = e })

-- the point is that of the last of the places at which a guard holds, with the first switch whose guard holds there
pub record IsLastGuard (a : PlainPlant) (c : PlainController) (s : PlainState) (y : PlainPoint) (places : List Number) (stop : Stop) : Type 0 where
  pub there : SomeOf (λ q. q ≡ stop.place) places
  pub guard : IsFirstGuard a c.guards (state_along s y stop.place) stop.switch
  pub point : stop.at ≡ along s.at y stop.place
  pub last : AllOf (λ q. lt stop.place q ≡ true → ¬ InSomeGuard a c.guards (state_along s y q)) places

-- the last of the places at which a guard holds, where there is one
abbrev pub IsLastOf : PlainPlant → PlainController → PlainState → PlainPoint → List Number → Option Stop → Type 0
IsLastOf a c s y places None = AllOf (λ q. ¬ InSomeGuard a c.guards (state_along s y q)) places
IsLastOf a c s y places (Some stop) = IsLastGuard a c s y places stop

-- how far the flow from s to y is run
abbrev pub IsWay : PlainPlant → PlainController → PlainState → PlainPoint → Way → Type 0
IsWay a c s y Whole = PassesWhole a c s y
IsWay a c s y (Stopped stop) = StopsAt a c s y stop.place stop.switch × (stop.at ≡ along s.at y stop.place)

-- the step of a flow as far as the stop, in this time; at the place 0 there is none
abbrev pub steps_to : Number → Stop → List PlainStep
steps_to part stop = cond (lt nought stop.place) (flowed part stop.at ∷ []) []

-- the result of the switch is picked at the state
abbrev pub IsPicked : PlainPlant → PlainController → PlainState → ℕ → PlainPoint → Type 0
IsPicked a c s e z = (picked_result a c.region e s).value ≡ Some z

-- what the controller does at a switch of its guards: one of side `ctl` is then pending, one of side `pick` has a result
abbrev pub MayTake : PlainPlant → PlainController → PlainState → ℕ → Type 0
MayTake a c s e = HasSide a e Ctl ⊎ (HasSide a e Pick × (z : PlainPoint) × IsPicked a c s e z)

-- the steps, and where the run stands after them
abbrev pub Course : Type 0
Course = List PlainStep × RunPlace

-- what was done as plain data
abbrev pub plain_done : Done → Course
plain_done done = (plain_steps done.steps.items, plain_place done.state done.pending)

-- the steps so far and then the switch, which is pending at the state
abbrev pub pending_course : List PlainStep → PlainState → ℕ → Course
pending_course steps s e = (steps ++ (switched e ∷ []), record { state = s; pending = Some e })

-- the steps so far and then the switch with its result, at which the run rests
abbrev pub picked_course : PlainPlant → List PlainStep → ℕ → PlainPoint → Course
picked_course a steps e z = (steps ++ (switched e ∷ landed (result_at a e z) ∷ []), resting (result_at a e z))

-- what a stop of a flow from s in the time t does
abbrev pub IsStopDone : PlainPlant → PlainController → PlainState → Number → Stop → Done → Type 0
IsStopDone a c s t stop done =
    let steps = steps_to (mul stop.place t) stop in
    let there = moved_to s stop.at in
    (HasSide a stop.switch Ctl × (plain_done done ≡ pending_course steps there stop.switch))
    ⊎ (HasSide a stop.switch Pick × (z : PlainPoint) × IsPicked a c there stop.switch z × (plain_done done ≡ picked_course a steps stop.switch z))

-- the time up to the stop is refused, or a number by which the result of its switch is picked
abbrev pub IsWideStop : PlainPlant → PlainController → PlainState → Number → Stop → Type 0
IsWideStop a c s t stop =
    ((marked_mul frac_arithmetic stop.place t).wide ≡ true)
    ⊎ (HasSide a stop.switch Pick × ((picked_result a c.region stop.switch (moved_to s stop.at)).wide ≡ true))

-- a list of rows by which that result is picked is too long
abbrev pub IsLongStop : PlainPlant → PlainController → PlainState → Stop → Type 0
IsLongStop a c s stop = HasSide a stop.switch Pick × ((picked_result a c.region stop.switch (moved_to s stop.at)).rows ≡ true)

-- what the entry does where the run stands
abbrev pub IsDone : PlainPlant → PlainController → RunPlace → PlainEntry → Done → Type 0
IsDone a c r entry done = DoesEntry (picks a c.region) a c r entry (plain_steps done.steps.items) (plain_place done.state done.pending)

-- what the entry does, where it is legal
abbrev pub IsTaken : PlainPlant → PlainController → RunPlace → PlainEntry → Option Done → Type 0
IsTaken a c r entry None = ¬ IsLegalEntry a r entry
IsTaken a c r entry (Some done) = IsLegalEntry a r entry × IsDone a c r entry done

-- a step of the run: what a legal entry does is put behind the steps so far; after an entry that is not legal they are as before
abbrev pub IsStep : PlainPlant → PlainController → PlainEntry → Running → Running → Bool → Type 0
IsStep a c entry old new true =
    IsLegalEntry a (running_place old) entry
    × ((more : List PlainStep) × DoesEntry (picks a c.region) a c (running_place old) entry more (running_place new) × (plain_steps new.steps.items ≡ plain_steps old.steps.items ++ more))
IsStep a c entry old new false = (¬ IsLegalEntry a (running_place old) entry) × (plain_steps new.steps.items ≡ plain_steps old.steps.items)

-- the run is at its start, which is in the region, with no switch pending
pub record IsBegun (a : PlainPlant) (c : PlainController) (start : PlainState) (r : Running) : Type 0 where
  pub inside : InRegion a c.region start
  pub steps : plain_steps r.steps.items ≡ started start ∷ []
  pub place : running_place r ≡ resting start

-- the run at its start, or none where that is not in the region
abbrev pub IsBegunIf : PlainPlant → PlainController → PlainState → Option Running → Type 0
IsBegunIf a c start None = ¬ InRegion a c.region start
IsBegunIf a c start (Some r) = IsBegun a c start r

-- the run stands in the region, and a switch that is pending is there
pub record IsStanding (a : PlainPlant) (c : PlainController) (r : Running) : Type 0 where
  pub inside : InRegion a c.region (plain_state r.state)
  pub pending : (e : ℕ) → r.pending ≡ Some e → e < length a.switches
