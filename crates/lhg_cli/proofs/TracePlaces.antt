-- The places of the steps of a run are those of the plant, and their points have a value for each variable.
use Rattle.std.proofs.Common.{◌≡◌, ℕ, zero, suc, Bool, true, false, cond, List, [], ◌∷◌, length, take, slice_get, Some, inl, inr, refl, sym, ◌∙◌, subst}
use Rattle.lhg_math.specs.Number.{Number, lt, nought, mul}
use Rattle.lhg_math.specs.Tests.{AllOf}
use Rattle.lhg_row.specs.Members.{all-append}
use Rattle.lhg_row.specs.Row.{PlainPoint}
use Rattle.lhg_motion.specs.CheckPlaces.{check_is_place}
use Rattle.lhg_motion.specs.Segment.{along}
use Rattle.lhg_plant.specs.Controller.{PlainController}
use Rattle.lhg_plant.specs.Inside.{IsRegionInside}
use Rattle.lhg_plant.specs.Legal.{LegalFlow}
use Rattle.lhg_plant.specs.Plant.{PlainPlant}
use Rattle.lhg_plant.specs.Proper.{IsProper}
use Rattle.lhg_plant.specs.Pick.{picks}
use Rattle.lhg_plant.specs.Run.{PlainEntry, flow_entry, env_entry, land_entry, PlainStep, flowed, switched, landed, RunPlace, run_rows, state_along, run_flow, PassesFlow, StopsFlow, PicksFlow, IsLegalEntry, DoesEntry, RunsFrom, IsRun, resting}
use Rattle.lhg_plant.specs.Choice.{result_at}
use Rattle.lhg_plant.specs.State.{PlainState, IsState}
use Rattle.lhg_plant.proofs.Picks.{picks_legal}
use Rattle.lhg_plant.proofs.RunInside.{flow_length, along_state}
use Rattle.lhg_run.specs.Answers.{IsTraceBefore}
use Rattle.lhg_text.specs.TraceText.{IsPlacedStep}
use Rattle.lhg_text.proofs.RecordPlaces.{there}
use Rattle.lhg_cli.proofs.Placed.{placed_state}

module _ (a : PlainPlant) (proper : IsProper a) (c : PlainController) (inside : IsRegionInside a c.region) where
  -- a flow as far as a place
  part : (s : PlainState) (t : Number) (y : PlainPoint) (p : Number) (b : Bool) → length (along s.at y p) ≡ length a.vars → AllOf (IsPlacedStep a) (cond b (flowed (mul p t) (along s.at y p) ∷ []) [])
  part s t y p true h = (h, tt)
  part s t y p false h = tt

  module _ (s : PlainState) (t : Number) (y : PlainPoint) (legal : LegalFlow a s t y) (steps : List PlainStep) (next : RunPlace) where
    passed : PassesFlow a c s t y steps next → AllOf (IsPlacedStep a) steps
    passed h = subst (λ (ss : List PlainStep). AllOf (IsPlacedStep a) ss) (sym h.does) (sym (flow_length a s t y legal) ∙ legal.start.fits, tt)

    stopped : StopsFlow a c s t y steps next → AllOf (IsPlacedStep a) steps
    stopped h =
        let state = along_state a s t y h.place legal (check_is_place (run_rows a c s.loc) s.at y h.place h.stops.check) in
        subst (λ (ss : List PlainStep). AllOf (IsPlacedStep a) ss) (sym h.does)
        (all-append (IsPlacedStep a) (run_flow s t y h.place) (switched h.switch ∷ []) (part s t y h.place (lt nought h.place) state.fits)
        (there _ a.switches h.switch (slice_get a.switches h.switch) refl h.side, tt))

    picked : PicksFlow (picks a c.region) a c s t y steps next → AllOf (IsPlacedStep a) steps
    picked h =
        let state = along_state a s t y h.place legal (check_is_place (run_rows a c s.loc) s.at y h.place h.stops.check) in
        let right = (picks_legal a c.region proper inside).legal h.switch (state_along s y h.place) h.result state h.stops.guard.holds.leaves h.picks in
        subst (λ (ss : List PlainStep). AllOf (IsPlacedStep a) ss) (sym h.does)
        (all-append (IsPlacedStep a) (run_flow s t y h.place) (switched h.switch ∷ landed (result_at a h.switch h.result) ∷ []) (part s t y h.place (lt nought h.place) state.fits)
        (there _ a.switches h.switch (slice_get a.switches h.switch) refl h.side, (placed_state a (result_at a h.switch h.result) right.0.result, tt)))

  step_placed : (r : RunPlace) (entry : PlainEntry) (steps : List PlainStep) (next : RunPlace) → IsLegalEntry a r entry → DoesEntry (picks a c.region) a c r entry steps next → AllOf (IsPlacedStep a) steps
  step_placed r (flow_entry t y) steps next legal (inl h) = passed r.state t y legal.1 steps next h
  step_placed r (flow_entry t y) steps next legal (inr (inl h)) = stopped r.state t y legal.1 steps next h
  step_placed r (flow_entry t y) steps next legal (inr (inr h)) = picked r.state t y legal.1 steps next h
  step_placed r (env_entry e y) steps next legal h =
      subst (λ (ss : List PlainStep). AllOf (IsPlacedStep a) ss) (sym h.0)
      ((there _ a.switches e (slice_get a.switches e) refl legal.1, placed_state a (result_at a e y) legal.2.result), tt)
  step_placed r (land_entry y) steps next legal h =
      let named : Some h.0 ≡ Some legal.0 = sym h.1 ∙ legal.1 in
      let same : legal.0 ≡ h.0 = cc in
      subst (λ (ss : List PlainStep). AllOf (IsPlacedStep a) ss) (sym h.2)
      (placed_state a (result_at a h.0 y) (subst (λ (e : ℕ). IsState a (result_at a e y)) same legal.2.result), tt)

  runs_placed : (r : RunPlace) (entries : List PlainEntry) (trace : List PlainStep) (last : RunPlace) → RunsFrom (picks a c.region) a c r entries trace last → AllOf (IsPlacedStep a) trace
  runs_placed r [] trace last h = subst (λ (ss : List PlainStep). AllOf (IsPlacedStep a) ss) (sym h.0) tt
  runs_placed r (entry ∷ rest) trace last h =
      subst (λ (ss : List PlainStep). AllOf (IsPlacedStep a) ss) (sym h.6)
      (all-append (IsPlacedStep a) h.0 h.2 (step_placed r entry h.0 h.1 h.3 h.4) (runs_placed h.1 rest h.2 last h.5))

  pub run_placed : (start : PlainState) (entries : List PlainEntry) (trace : List PlainStep) (last : RunPlace) → IsRun (picks a c.region) a c start entries trace last → AllOf (IsPlacedStep a) trace
  run_placed start entries trace last h =
      subst (λ (ss : List PlainStep). AllOf (IsPlacedStep a) ss) (sym h.whole) (placed_state a start h.starts.state, runs_placed (resting start) entries h.steps last h.runs)

  pub before_placed : (start : PlainState) (entries : List PlainEntry) (k : ℕ) (trace : List PlainStep) → IsTraceBefore a c start entries k trace → AllOf (IsPlacedStep a) trace
  before_placed start entries zero trace h = subst (λ (ss : List PlainStep). AllOf (IsPlacedStep a) ss) (sym h) tt
  before_placed start entries (suc k) trace h = run_placed start (take k entries) trace h.0 h.1
