-- Steps of the loop over the entries of a log.
use Rattle.std.proofs.Common.{◌≡◌, ℕ, zero, suc, List, [], ◌∷◌, ◌++◌, take, slice_get, Some, append_assoc, append-nil, refl, sym, ap, ◌∙◌, subst}
use Rattle.lhg_plant.specs.Plant.{PlainPlant}
use Rattle.lhg_plant.specs.State.{PlainState}
use Rattle.lhg_plant.specs.Region.{InRegion}
use Rattle.lhg_plant.specs.Controller.{PlainController, IsValid}
use Rattle.lhg_plant.specs.Choice.{IsLegalChoice}
use Rattle.lhg_plant.specs.Pick.{picks}
use Rattle.lhg_plant.specs.Run.{PlainEntry, PlainStep, started, RunPlace, resting, IsLegalEntry, DoesEntry, RunsFrom, IsRun}
use Rattle.lhg_plant.specs.Log.{AllLegalFrom, IsIllegalFrom, IsFirstIllegal, IsLegalLog}
use Rattle.lhg_plant.proofs.RunDetermined.{does_once}
use Rattle.lhg_plant.proofs.StaysInside.{IsKept, entry_kept, resting_kept, run_inside}
use Rattle.lhg_run.specs.Answers.{IsTraceOf}
use Rattle.lhg_run.specs.Numbers.{AtTurn}

module _ (a : PlainPlant) (c : PlainController) where
  -- a run goes on by one more entry
  runs-more : (r : RunPlace) (entries : List PlainEntry) (trace : List PlainStep) (last : RunPlace) (entry : PlainEntry) (steps : List PlainStep) (next : RunPlace)
      → RunsFrom (picks a c.region) a c r entries trace last → IsLegalEntry a last entry → DoesEntry (picks a c.region) a c last entry steps next
      → RunsFrom (picks a c.region) a c r (entries ++ entry ∷ []) (trace ++ steps) next
  runs-more r [] trace last entry steps next h legal does =
      let legal2 = subst (λ w. IsLegalEntry a w entry) h.1 legal in
      let does2 = subst (λ w. DoesEntry (picks a c.region) a c w entry steps next) h.1 does in
      (steps, next, [], legal2, does2, (refl, refl), ap (λ w. w ++ steps) h.0 ∙ sym (append-nil steps))
  runs-more r (e ∷ entries) trace last entry steps next h legal does =
      (h.0, h.1, h.2 ++ steps, h.3, h.4, runs-more h.1 entries h.2 last entry steps next h.5 legal does, ap (λ w. w ++ steps) h.6 ∙ append_assoc h.0 h.2 steps)

  -- the same of a run from a start
  pub run-more : (start : PlainState) (entries : List PlainEntry) (trace : List PlainStep) (last : RunPlace) (entry : PlainEntry) (steps : List PlainStep) (next : RunPlace)
      → IsRun (picks a c.region) a c start entries trace last → IsLegalEntry a last entry → DoesEntry (picks a c.region) a c last entry steps next
      → IsRun (picks a c.region) a c start (entries ++ entry ∷ []) (trace ++ steps) next
  run-more start entries trace last entry steps next run legal does = record {
    starts = run.starts;
    steps = run.steps ++ steps;
    runs = runs-more (resting start) entries run.steps last entry steps next run.runs legal does;
    whole = ap (λ w. w ++ steps) run.whole;
  }

  -- at the start
  pub run-start : (start : PlainState) → InRegion a c.region start → IsRun (picks a c.region) a c start [] (started start ∷ []) (resting start)
  run-start start h = record { starts = h; steps = []; runs = (refl, refl); whole = refl }

  -- the entries of a run are legal
  runs-legal : (r : RunPlace) (entries : List PlainEntry) (trace : List PlainStep) (last : RunPlace) → RunsFrom (picks a c.region) a c r entries trace last → AllLegalFrom (picks a c.region) a c r entries
  runs-legal r [] trace last h = tt
  runs-legal r (entry ∷ entries) trace last h =
      (h.3, λ steps next does. subst (λ w. AllLegalFrom (picks a c.region) a c w entries) (does_once (picks a c.region) a c r entry h.0 steps h.1 next h.4 does).1 (runs-legal h.1 entries h.2 last h.5))

  -- the log of a run is legal
  pub run-legal : (start : PlainState) (entries : List PlainEntry) (trace : List PlainStep) (last : RunPlace) → IsRun (picks a c.region) a c start entries trace last → IsLegalLog (picks a c.region) a c start entries
  run-legal start entries trace last run = record { starts = run.starts; all_legal = runs-legal (resting start) entries run.steps last run.runs }

  -- an entry behind a run that is not legal is the first that is not
  runs-illegal : (k : ℕ) (r : RunPlace) (entries : List PlainEntry) (trace : List PlainStep) (last : RunPlace) (entry : PlainEntry)
      → RunsFrom (picks a c.region) a c r (take k entries) trace last → slice_get entries k ≡ Some entry → ¬ IsLegalEntry a last entry → IsIllegalFrom (picks a c.region) a c r entries k
  runs-illegal k r [] trace last entry h is not = absurd (nothing k is)
    where
      nothing : (k : ℕ) → slice_get [] k ≡ Some entry → ⊥
      nothing k e = cc
  runs-illegal zero r (e ∷ entries) trace last entry h is not =
      λ legal. not (subst (λ w. IsLegalEntry a w entry) (sym h.1) (subst (IsLegalEntry a r) (let same : e ≡ entry = cc in same) legal))
  runs-illegal (suc k) r (e ∷ entries) trace last entry h is not =
      (h.3, h.0, h.1, h.4, runs-illegal k h.1 entries h.2 last entry h.5 is not)

  -- the same from a start
  pub run-illegal : (k : ℕ) (start : PlainState) (entries : List PlainEntry) (trace : List PlainStep) (last : RunPlace) (entry : PlainEntry)
      → IsRun (picks a c.region) a c start (take k entries) trace last → slice_get entries k ≡ Some entry → ¬ IsLegalEntry a last entry → IsFirstIllegal (picks a c.region) a c start entries (suc k)
  run-illegal k start entries trace last entry run is not = (run.starts, runs-illegal k (resting start) entries run.steps last entry run.runs is not)

-- where a run stands after some entries of a log, and what it keeps
pub record IsRunning (a : PlainPlant) (c : PlainController) (start : PlainState) (entries : List PlainEntry) (trace : List PlainStep) (place : RunPlace) : Type 0 where
  pub run : IsRun (picks a c.region) a c start entries trace place
  pub kept : IsKept a c place

module _ (a : PlainPlant) (c : PlainController) (valid : IsValid a c) (fit : IsLegalChoice a c.region (picks a c.region)) where
  -- at the start
  pub running-start : (start : PlainState) → InRegion a c.region start → IsRunning a c start [] (started start ∷ []) (resting start)
  running-start start h = record { run = run-start a c start h; kept = resting_kept a c start h }

  -- one entry more
  pub running-more : (start : PlainState) (entries : List PlainEntry) (trace : List PlainStep) (last : RunPlace) (entry : PlainEntry) (steps : List PlainStep) (next : RunPlace)
      → IsRunning a c start entries trace last → IsLegalEntry a last entry → DoesEntry (picks a c.region) a c last entry steps next
      → IsRunning a c start (entries ++ entry ∷ []) (trace ++ steps) next
  running-more start entries trace last entry steps next h legal does = record {
    run = run-more a c start entries trace last entry steps next h.run legal does;
    kept = (entry_kept (picks a c.region) a c valid fit last entry steps next h.kept legal does).0;
  }

  -- at the end the trace is that of the log
  pub running-end : (start : PlainState) (entries : List PlainEntry) (trace : List PlainStep) (last : RunPlace) → IsRunning a c start entries trace last → IsTraceOf a c start entries trace
  running-end start entries trace last h = record {
    last = last;
    run = h.run;
    legal = run-legal a c start entries trace last h.run;
    inside = run_inside (picks a c.region) a c valid fit start entries trace last h.run;
  }

-- the fact at the turn of an entry
pub turn : (a : PlainPlant) (c : PlainController) (start : PlainState) (entries : List PlainEntry) (k : ℕ) (entry : PlainEntry) (trace : List PlainStep) (place : RunPlace)
    (P : RunPlace → PlainEntry → Type 0) → slice_get entries k ≡ Some entry → IsRun (picks a c.region) a c start (take k entries) trace place → P place entry → AtTurn a c start entries k P
turn a c start entries k entry trace place P is run fact = record { entry = entry; is_there = is; place = place; stands = record { trace = trace; run = run }; fact = fact }
