-- A run is determined by the controller, the start and the entries.
use Rattle.std.proofs.Common.{◌≡◌, ◌<◌, inl, inr, ℕ, List, [], ◌∷◌, ◌++◌, Option, Some, None, IsSomeAnd, slice_get, sym, ap, ◌∙◌, subst, arith, false}
use Rattle.lhg_math.specs.Number.{Number, lt}
use Rattle.lhg_math.specs.NumberOrder.{lt_antisymm}
use Rattle.lhg_math.specs.Tests.{by_bool}
use Rattle.lhg_row.specs.Row.{PlainPoint}
use Rattle.lhg_plant.specs.declared.plants.Side.TheVariants.{Ctl, Pick}
use Rattle.lhg_plant.specs.Plant.{PlainPlant, PlainSwitch}
use Rattle.lhg_plant.specs.State.{PlainState}
use Rattle.lhg_plant.specs.Controller.{PlainController}
use Rattle.lhg_plant.specs.Legal.{HasSide}
use Rattle.lhg_plant.specs.Region.{PlainGuards}
use Rattle.lhg_plant.specs.Run.{PlainEntry, flow_entry, env_entry, land_entry, PlainStep, started, switched, landed, RunPlace, resting, state_along, run_flow, PassesWhole, IsFirstOutside, IsFirstGuard, StopsAt, DoesEntry, RunsFrom, IsRun}
use Rattle.lhg_plant.specs.Choice.{result_at, Choice}
use Rattle.lhg_plant.proofs.Picks.{some_point}
use Rattle.lhg_plant.proofs.StaysInside.{same_number}

-- there is one first check point outside
first_once : (a : PlainPlant) (c : PlainController) (s : PlainState) (y : PlainPoint) (z w : Number) → IsFirstOutside a c s y z
    → IsFirstOutside a c s y w → z ≡ w
first_once a c s y z w h k =
    lt_antisymm z w
    (by_bool (lt z w) (λ e. absurd (h.outside (k.before z h.check e))) (λ e. e))
    (by_bool (lt w z) (λ e. absurd (k.outside (h.before w k.check e))) (λ e. e))

-- of two places at which the run stops none is before the other
not_past : (a : PlainPlant) (c : PlainController) (s : PlainState) (y : PlainPoint) (p q : Number) (d e : ℕ) → StopsAt a c s y p d
    → StopsAt a c s y q e → lt p q ≡ false
not_past a c s y p q d e h k =
    let same : k.end_place ≡ h.end_place = first_once a c s y k.end_place h.end_place k.first h.first in
    by_bool (lt p q) (λ f. absurd (h.last q e k.check f (ap (λ w. lt q w) (sym same) ∙ k.before) k.guard.holds)) (λ f. f)

-- there is one first switch whose guard holds
guard_once : (a : PlainPlant) (g : PlainGuards) (s : PlainState) (d e : ℕ) → IsFirstGuard a g s d → IsFirstGuard a g s e → d ≡ e
guard_once a g s d e h k = by (λ l. k.before d l h.holds) (λ l. h.before e l k.holds)
  where
    by : (d < e → ⊥) → (e < d → ⊥) → d ≡ e
    by f g = omega arith

-- the run stops at one place
stop_place_once : (a : PlainPlant) (c : PlainController) (s : PlainState) (y : PlainPoint) (p q : Number) (d e : ℕ) → StopsAt a c s y p d
    → StopsAt a c s y q e → p ≡ q
stop_place_once a c s y p q d e h k = lt_antisymm p q (not_past a c s y p q d e h k) (not_past a c s y q p e d k h)

-- it stops by one switch
stop_switch_once : (a : PlainPlant) (c : PlainController) (s : PlainState) (y : PlainPoint) (p q : Number) (d e : ℕ) → p ≡ q → StopsAt a c s y p d
    → StopsAt a c s y q e → d ≡ e
stop_switch_once a c s y p q d e same h k = guard_once a c.guards (state_along s y q) d e (subst (λ (w : Number). IsFirstGuard a c.guards (state_along s y w) d) same h.guard) k.guard

-- a flow that passes whole is not stopped
pass_or_stop : {P : Type 0} (a : PlainPlant) (c : PlainController) (s : PlainState) (y : PlainPoint) (p : Number) (e : ℕ) → PassesWhole a c s y → StopsAt a c s y p e → P
pass_or_stop a c s y p e whole stop = absurd (stop.first.outside (whole stop.end_place stop.first.check))

-- a switch has one side
one_side : (o : Option PlainSwitch) → IsSomeAnd o (λ w. w.side ≡ Ctl) → IsSomeAnd o (λ w. w.side ≡ Pick) → ⊥
one_side None h k = h
one_side (Some w) h k = cc

-- the steps of a flow that is stopped by a switch that is then pending
abbrev stop_steps : PlainState → Number → PlainPoint → Number → ℕ → List PlainStep
stop_steps s t y p e = run_flow s t y p ++ (switched e ∷ [])

-- where the run stands after it
abbrev stop_next : PlainState → PlainPoint → Number → ℕ → RunPlace
stop_next s y p e = record { state = state_along s y p; pending = Some e }

-- the steps of a flow that is stopped by a switch whose result is chosen
abbrev pick_steps : PlainPlant → PlainState → Number → PlainPoint → Number → ℕ → PlainPoint → List PlainStep
pick_steps a s t y p e z = run_flow s t y p ++ (switched e ∷ landed (result_at a e z) ∷ [])

-- two answers are the same
abbrev Same : List PlainStep → RunPlace → List PlainStep → RunPlace → Type 0
Same steps next made there = (steps ≡ made) × (next ≡ there)

-- one entry does one thing
pub does_once : (choice : Choice) (a : PlainPlant) (c : PlainController) (r : RunPlace) (entry : PlainEntry) (steps made : List PlainStep) (next there : RunPlace)
    → DoesEntry choice a c r entry steps next → DoesEntry choice a c r entry made there → Same steps next made there
does_once choice a c r (flow_entry t y) steps made next there (inl h) (inl k) = (h.does ∙ sym k.does, h.goes ∙ sym k.goes)
does_once choice a c r (flow_entry t y) steps made next there (inl h) (inr (inl k)) = pass_or_stop a c r.state y k.place k.switch h.whole k.stops
does_once choice a c r (flow_entry t y) steps made next there (inl h) (inr (inr k)) = pass_or_stop a c r.state y k.place k.switch h.whole k.stops
does_once choice a c r (flow_entry t y) steps made next there (inr (inl h)) (inl k) = pass_or_stop a c r.state y h.place h.switch k.whole h.stops
does_once choice a c r (flow_entry t y) steps made next there (inr (inr h)) (inl k) = pass_or_stop a c r.state y h.place h.switch k.whole h.stops
does_once choice a c r (flow_entry t y) steps made next there (inr (inl h)) (inr (inl k)) =
    let p = stop_place_once a c r.state y h.place k.place h.switch k.switch h.stops k.stops in
    let e = stop_switch_once a c r.state y h.place k.place h.switch k.switch p h.stops k.stops in (
      h.does ∙ ap (λ w. stop_steps r.state t y w h.switch) p ∙ ap (λ (w : ℕ). stop_steps r.state t y k.place w) e ∙ sym k.does,
      h.goes ∙ ap (λ w. stop_next r.state y w h.switch) p ∙ ap (λ (w : ℕ). stop_next r.state y k.place w) e ∙ sym k.goes,
    )
does_once choice a c r (flow_entry t y) steps made next there (inr (inl h)) (inr (inr k)) =
    let p = stop_place_once a c r.state y h.place k.place h.switch k.switch h.stops k.stops in
    let e = stop_switch_once a c r.state y h.place k.place h.switch k.switch p h.stops k.stops in
    absurd (one_side (slice_get a.switches k.switch) (subst (λ (n : ℕ). HasSide a n Ctl) e h.side) k.side)
does_once choice a c r (flow_entry t y) steps made next there (inr (inr h)) (inr (inl k)) =
    let p = stop_place_once a c r.state y h.place k.place h.switch k.switch h.stops k.stops in
    let e = stop_switch_once a c r.state y h.place k.place h.switch k.switch p h.stops k.stops in
    absurd (one_side (slice_get a.switches h.switch) (subst (λ (n : ℕ). HasSide a n Ctl) (sym e) k.side) h.side)
does_once choice a c r (flow_entry t y) steps made next there (inr (inr h)) (inr (inr k)) =
    let p = stop_place_once a c r.state y h.place k.place h.switch k.switch h.stops k.stops in
    let e = stop_switch_once a c r.state y h.place k.place h.switch k.switch p h.stops k.stops in
    let f : choice h.switch (state_along r.state y h.place) ≡ choice k.switch (state_along r.state y k.place) =
    ap (λ (w : Number). choice h.switch (state_along r.state y w)) p ∙ ap (λ (w : ℕ). choice w (state_along r.state y k.place)) e in
    let z : h.result ≡ k.result = some_point h.result k.result (sym h.picks ∙ f ∙ k.picks) in (
      h.does ∙ ap (λ w. pick_steps a r.state t y w h.switch h.result) p ∙ ap (λ (w : ℕ). pick_steps a r.state t y k.place w h.result) e
          ∙ ap (λ (w : PlainPoint). pick_steps a r.state t y k.place k.switch w) z ∙ sym k.does,
      h.goes ∙ ap (λ (w : ℕ). resting (result_at a w h.result)) e ∙ ap (λ (w : PlainPoint). resting (result_at a k.switch w)) z ∙ sym k.goes,
    )
does_once choice a c r (env_entry e y) steps made next there h k = (h.0 ∙ sym k.0, h.1 ∙ sym k.1)
does_once choice a c r (land_entry y) steps made next there h k =
    let same : h.0 ≡ k.0 = same_number h.0 k.0 (sym h.1 ∙ k.1) in
    (h.2 ∙ ap (λ (w : ℕ). landed (result_at a w y) ∷ []) same ∙ sym k.2, h.3 ∙ ap (λ (w : ℕ). resting (result_at a w y)) same ∙ sym k.3)

-- the runs of the same entries from the same place are the same
runs_once : (choice : Choice) (a : PlainPlant) (c : PlainController) (r : RunPlace) (entries : List PlainEntry) (trace made : List PlainStep) (last there : RunPlace)
    → RunsFrom choice a c r entries trace last → RunsFrom choice a c r entries made there → Same trace last made there
runs_once choice a c r [] trace made last there h k = (h.0 ∙ sym k.0, h.1 ∙ sym k.1)
runs_once choice a c r (entry ∷ rest) trace made last there h k =
    let first = does_once choice a c r entry h.0 k.0 h.1 k.1 h.4 k.4 in
    let more = runs_once choice a c k.1 rest h.2 k.2 last there (subst (λ (w : RunPlace). RunsFrom choice a c w rest h.2 last) first.1 h.5) k.5 in
    (h.6 ∙ ap (λ w. w ++ h.2) first.0 ∙ ap (λ w. k.0 ++ w) more.0 ∙ sym k.6, more.1)

-- the runs of the same log are the same
pub run_once : (choice : Choice) (a : PlainPlant) (c : PlainController) (start : PlainState) (entries : List PlainEntry) (trace made : List PlainStep) (last there : RunPlace)
    → IsRun choice a c start entries trace last → IsRun choice a c start entries made there → Same trace last made there
run_once choice a c start entries trace made last there h k =
    let s = runs_once choice a c (resting start) entries h.steps k.steps last there h.runs k.runs in
    (h.whole ∙ ap (λ w. started start ∷ w) s.0 ∙ sym k.whole, s.1)
