-- What is reached from the states of a region is reached from the lines that say them, and what is told of it.
use Rattle.std.proofs.Common.{◌≡◌, ◌↔◌, ◌<◌, ℕ, zero, suc, Bool, true, List, [], ◌∷◌, length, Result, Ok, Err, IfOk, IfErr, sym, ap, ◌∙◌, subst, inl, inr, arith}
use Rattle.std.specs.Prelude.{slice_get, IsSomeAnd}
use Rattle.lhg_num.specs.Marked.{Marked, valued}
use Rattle.lhg_num.specs.Halting.{IsHaltedBy}
use Rattle.lhg_num.specs.declared.refusals.Halt.{Halt}
use Rattle.lhg_num.specs.declared.refusals.Halt.TheVariants as halt
use Rattle.lhg_plant.specs.Plant.{PlainLocation}
use Rattle.lhg_plant.specs.Region.{PlainRegion, InRegion}
use Rattle.lhg_plant.specs.State.{PlainState, IsState}
use Rattle.lhg_plant.specs.Views.{plain_state}
use Rattle.lhg_text.specs.ForwardText.{forward_text, IsWrittenForward, SameForward}
use Rattle.lhg_text.specs.TraceText.{IsPlacedState}
use Rattle.lhg_forward.specs.Growth.{PlainForward, ended, spent, forward_sets, nothing, work}
use Rattle.lhg_forward.specs.InitStates.{InInit, init_of}
use Rattle.lhg_forward.specs.Level.{AtLevel, IsReachable}
use Rattle.lhg_forward.specs.Outcomes.{IsForwardStop, stop_of}
use Rattle.lhg_forward.specs.StageFacts.{IsForward, IsSpent}
use Rattle.lhg_forward.specs.WorkLaws.{IsStopIn}
use Rattle.lhg_forward.specs.declared.stops.ForwardStop.{ForwardStop}
use Rattle.lhg_forward.specs.declared.stops.ForwardStop.TheVariants.{Wide, Rows, Pieces, Spent, Memory}
use Rattle.lhg_forward.proofs.Levels.{reachable_same, added_same, adds_same, last_same}
use Rattle.lhg_forward.proofs.StageSteps.{action_state}
use Rattle.lhg_cli.specs.ReachAnswer.{PlantInit, reached, IsExplored, reach_work, IsReachStop, IsReachSpent, IsUnexplored, IsPlacedStop, TellsReachStop, IsReached}
use Rattle.lhg_cli.specs.declared.solving.Answer.{Answer}
use Rattle.lhg_cli.specs.declared.status.Status.{Status}
use Rattle.lhg_cli.specs.declared.status.Status.TheVariants as status

-- what follows of an error
pub err_by : {T E : Type 0} (P Q : E → Type 0) (r : Result T E) → ((e : E) → P e → Q e) → IfErr r P → IfErr r Q
err_by P Q (Ok x) f h = tt
err_by P Q (Err e) f h = f e h

-- ---- from a region to the lines that say its states
module _ (v : PlantInit) (budget : ℕ) (init : PlainRegion) (is : init ≡ (init_of v.0 v.1).value) (same : (z : PlainState) → InRegion v.0 init z ↔ InInit v.0 v.1 z) where
  -- what the calculus gives
  calculus_of : (f : PlainForward) → forward_sets v.0 init budget ≡ f → reached v budget ≡ f
  calculus_of f e = ap (λ r. forward_sets v.0 r budget) (sym is) ∙ e

  pub explored_of : (rounds : ℕ) (region : PlainRegion) → forward_sets v.0 init budget ≡ ended rounds region → IsForward v.0 init budget rounds region → IsExplored v budget rounds region
  explored_of rounds region e f = record {
    exact = λ z. (
      λ h. (reachable_same v.0 (InRegion v.0 init) (InInit v.0 v.1) same z).0 ((f.exact z).0 h),
      λ h. (f.exact z).1 ((reachable_same v.0 (InRegion v.0 init) (InInit v.0 v.1) same z).1 h),
    );
    last = last_same v.0 (InRegion v.0 init) (InInit v.0 v.1) same rounds f.last;
    within = f.within;
    calculus = calculus_of (ended rounds region) e;
  }

  stop_in : (mark : Marked (Unit {0}) → Bool) (i : ℕ) → IsStopIn v.0 init budget i mark → IsReachStop v budget i mark
  stop_in mark zero h = let c = h.counted in absurd (omega (arith, c))
  stop_in mark (suc i) h = record {
    within = h.within;
    adds = λ j l m. adds_same v.0 (InRegion v.0 init) (InInit v.0 v.1) same j (h.adds j l m);
    marked = subst (λ r. mark (work v.0 r budget (suc i)) ≡ true) is h.marked;
  }

  spent_in : (z : PlainState) → forward_sets v.0 init budget ≡ spent z → IsSpent v.0 init budget z → IsReachSpent v budget z
  spent_in z e h = record {
    added = added_same v.0 (InRegion v.0 init) (InInit v.0 v.1) same budget z h.added;
    adds = λ j l m. adds_same v.0 (InRegion v.0 init) (InInit v.0 v.1) same j (h.adds j l m);
    calculus = calculus_of (spent z) e;
  }

  pub unexplored_of : (stop : ForwardStop) → IsForwardStop v.0 init budget stop → IsUnexplored v budget stop
  unexplored_of (Wide i) h = stop_in (λ m. m.wide) i h
  unexplored_of (Rows i) h = stop_in (λ m. m.rows) i h
  unexplored_of (Pieces i) h = stop_in (λ m. m.pieces) i h
  unexplored_of (Spent s) h = spent_in (plain_state s) h.0 h.1
  unexplored_of Memory h = tt

-- ---- where the region of the lines is not made
module _ {T : Type 0} (v : PlantInit) (budget : ℕ) (view : T → PlainRegion) where
  first_stop : (mark : Marked (Unit {0}) → Bool) → mark (valued nothing (init_of v.0 v.1)) ≡ true → IsReachStop v budget 0 mark
  first_stop mark h = record { within = omega arith; adds = λ j l m. absurd (omega arith); marked = h }

  pub unmade : (d : Halt) → IsHaltedBy {T = T} (Err d) (init_of v.0 v.1) view → IsUnexplored v budget (stop_of d 0)
  unmade halt.Wide h = first_stop (λ m. m.wide) h
  unmade halt.Rows h = first_stop (λ m. m.rows) h
  unmade halt.Pieces h = first_stop (λ m. m.pieces) h
  unmade halt.Memory h = tt

-- ---- the state of a spent budget is one of the plant
level_state : (v : PlantInit) (i : ℕ) (z : PlainState) → AtLevel v.0 (InInit v.0 v.1) i z → IsState v.0 z
level_state v zero z h = h.state
level_state v (suc i) z (inl h) = level_state v i z h
level_state v (suc i) z (inr h) = action_state v.0 h.from z h.step

there_if : (locs : List PlainLocation) (l : ℕ) (P : PlainLocation → Type 0) → IsSomeAnd (slice_get locs l) P → l < length locs
there_if [] l P h = absurd h
there_if (x ∷ locs) zero P h = omega arith
there_if (x ∷ locs) (suc l) P h = let t = there_if locs l P h in omega (arith, t)

pub placed_stop : (v : PlantInit) (budget : ℕ) (stop : ForwardStop) → IsUnexplored v budget stop → IsPlacedStop v.0 stop
placed_stop v budget (Wide i) h = tt
placed_stop v budget (Rows i) h = tt
placed_stop v budget (Pieces i) h = tt
placed_stop v budget (Spent s) h = let is = level_state v budget (plain_state s) h.added.now in record { loc = there_if v.0.locs (plain_state s).loc _ is.inside; fits = is.fits }
placed_stop v budget Memory h = tt

-- ---- what is told where there is no region
pub stop_told : (v : PlantInit) (budget : ℕ) (stop : ForwardStop) (s : Status) (text : List ℕ) → IsUnexplored v budget stop → TellsReachStop v.0 budget stop s text → IsReached budget v s text
stop_told v budget (Wide i) s text h t = subst (λ (k : Status). IsReached budget v k text) (sym t.0) (record { level = i; stop = h; printed = t.1 })
stop_told v budget (Rows i) s text h t = subst (λ (k : Status). IsReached budget v k text) (sym t.0) (inl (record { level = i; stop = h; printed = t.1 }))
stop_told v budget (Pieces i) s text h t = subst (λ (k : Status). IsReached budget v k text) (sym t.0) (inr (record { level = i; stop = h; printed = t.1 }))
stop_told v budget (Spent z) s text h t = subst (λ (k : Status). IsReached budget v k text) (sym t.0) (record { state = plain_state z; spent = h; printed = t.1 })
stop_told v budget Memory s text h t = absurd t

-- ---- what is told of a region
pub told_answer : {E : Type 0} (v : PlantInit) (budget rounds : ℕ) (region : PlainRegion) → IsExplored v budget rounds region → (r : Result Answer E) → IfOk r (λ a. a.status ≡ status.Done) → IfOk r (λ a. a.text.items ≡ forward_text v.0 region rounds)
    → IfOk r (λ a. (s : PlainRegion) (n : ℕ) → IsWrittenForward v.0 s n → forward_text v.0 s n ≡ a.text.items → SameForward region rounds s n) → IfOk r (λ a. IsReached budget v a.status a.text.items)
told_answer v budget rounds region e (Ok a) s t o =
    subst (λ (k : Status). IsReached budget v k a.text.items) (sym s) (record { rounds = rounds; region = region; explored = e; printed = t; one_reading = o })
told_answer v budget rounds region e (Err x) s t o = tt
