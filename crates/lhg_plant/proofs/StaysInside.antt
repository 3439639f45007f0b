-- The visited states of a run of a valid controller are in its region.
use Rattle.std.proofs.Common.{◌≡◌, inl, inr, ℕ, List, [], ◌∷◌, ◌++◌, Option, Some, None, IsSomeAnd, slice_get, length, sym, ap, ◌∙◌, subst, false}
use Rattle.lhg_math.specs.Number.{Number, lt, nought, unit}
use Rattle.lhg_math.specs.NumberOrder.{lt_irrefl, lt_antisymm, le_trans}
use Rattle.lhg_math.specs.Interpolate.{interpolate}
use Rattle.lhg_math.specs.InterpolateLaws.{interpolate-lt, interpolate_start, interpolate_end, interpolate_same}
use Rattle.lhg_math.specs.Places.{IsPlace}
use Rattle.lhg_math.specs.PlacesLaws.{end_place}
use Rattle.lhg_math.specs.Tests.{by_bool}
use Rattle.lhg_row.specs.Row.{PlainPoint}
use Rattle.lhg_motion.specs.Segment.{along}
use Rattle.lhg_motion.specs.SegmentLemmas.{along_start, along_twice}
use Rattle.lhg_motion.specs.PlayLemmas.{earlier_none}
use Rattle.lhg_motion.specs.CheckPlaces.{check_is_place}
use Rattle.lhg_plant.specs.declared.plants.Side.{Side}
use Rattle.lhg_plant.specs.declared.plants.Side.TheVariants.{Ctl, Env, Pick}
use Rattle.lhg_plant.specs.Plant.{PlainPlant, PlainSwitch}
use Rattle.lhg_plant.specs.State.{PlainState, moved_to}
use Rattle.lhg_plant.specs.Legal.{LegalFlow, LegalSwitch, HasSide}
use Rattle.lhg_plant.specs.OutBack.{StaysBy, BackBy}
use Rattle.lhg_plant.specs.Escape.{MayPass}
use Rattle.lhg_plant.specs.Region.{InRegion, InGuard, InSomeGuard}
use Rattle.lhg_plant.specs.Controller.{PlainController, IsValid}
use Rattle.lhg_plant.specs.Run.{PlainEntry, flow_entry, env_entry, land_entry, PlainStep, flowed, switched, landed, RunPlace, resting, run_rows, run_flow, state_along, PassesWhole, StopsAt, IsLegalEntry, DoesEntry, RunsFrom, IsRun}
use Rattle.lhg_plant.specs.Choice.{result_at, Choice, IsLegalChoice}
use Rattle.lhg_plant.specs.Log.{EachVisited}
use Rattle.lhg_plant.proofs.Decided.{region_decided}
use Rattle.lhg_plant.proofs.RunInside.{flow_length, end_state, passes_inside, upto_inside}

-- a part of a place is a place, and not past it
pub part_upto : (p q : Number) → IsPlace p → IsPlace q → lt p (interpolate nought p q) ≡ false
part_upto p q i j =
    by_bool (lt nought p)
    (λ e. ap (λ w. lt w (interpolate nought p q)) (sym (interpolate_end nought p)) ∙ interpolate-lt nought p unit q e ∙ j.upto)
    (λ e. let z : nought ≡ p = lt_antisymm nought p e i.from in ap (λ w. lt p (interpolate w p q)) z ∙ ap (λ w. lt p w) (interpolate_same p q) ∙ lt_irrefl p)

-- a part of a place is not below 0
part_from : (p q : Number) → IsPlace p → IsPlace q → lt (interpolate nought p q) nought ≡ false
part_from p q i j =
    by_bool (lt nought p)
    (λ e. ap (λ w. lt (interpolate nought p q) w) (sym (interpolate_start nought p)) ∙ interpolate-lt nought p q nought e ∙ j.from)
    (λ e. let z : p ≡ nought = sym (lt_antisymm nought p e i.from) in ap (λ w. lt (interpolate nought w q) nought) z ∙ ap (λ w. lt w nought) (interpolate_same nought q) ∙ lt_irrefl nought)

-- a part of a place is a place
pub part_place : (p q : Number) → IsPlace p → IsPlace q → IsPlace (interpolate nought p q)
part_place p q i j = record { from = part_from p q i j; upto = le_trans (interpolate nought p q) p unit (part_upto p q i j) i.upto }

-- a point of the part of a flow up to the place p
pub part_along : (s : PlainState) (y : PlainPoint) (p q : Number) → length s.at ≡ length y
    → state_along s (along s.at y p) q ≡ state_along s y (interpolate nought p q)
part_along s y p q e = ap (λ w. moved_to s w) (ap (λ w. along w (along s.at y p) q) (sym (along_start s.at y e)) ∙ along_twice s.at y nought p q e)

-- a state of a valid controller's region stays in it by each legal uncontrollable switch
pub env_inside : (a : PlainPlant) (c : PlainController) → IsValid a c → (e : ℕ) (s z : PlainState) → InRegion a c.region s → HasSide a e Env
    → LegalSwitch a e s z → InRegion a c.region z
env_inside a c valid e s z h side legal =
    elim (region_decided a c.region z) [
      | inl k ↦ k
      | inr k ↦ absurd (valid.closed s h (
        [],
        record {
          play = record { start = h.state; play = h.state.inside };
          ends = inr (record { number = e; result = z; side = side; legal = legal; gone = k });
          earlier = earlier_none (λ x. MayPass a (InRegion a c.region) (InSomeGuard a c.guards) (moved_to s x)) s.at;
        },
      ))
    ]

-- a state stays in a set by a switch as the side of the switch says
pub by_side : (side : Side) (a : PlainPlant) (S : PlainState → Type 0) (e : ℕ) (s : PlainState) → HasSide a e side → BackBy a S e s → StaysBy side a S e s
by_side side a S e s has back = go (slice_get a.switches e) has back
  where
    go : (o : Option PlainSwitch) → IsSomeAnd o (λ w. w.side ≡ side) → IsSomeAnd o (λ w. StaysBy w.side a S e s) → StaysBy side a S e s
    go None h k = absurd h
    go (Some w) h k = subst (λ (x : Side). StaysBy x a S e s) h k

-- a result of a switch of side `ctl` at a state of its guard is in the region
pub land_inside : (a : PlainPlant) (c : PlainController) → IsValid a c → (e : ℕ) (s z : PlainState) → HasSide a e Ctl → InGuard a c.guards e s
    → LegalSwitch a e s z → InRegion a c.region z
land_inside a c valid e s z side guard legal = (by_side Ctl a (InRegion a c.region) e s side (valid.guarded e s guard).1).1 z legal

-- what a run of a valid controller keeps: its state is in the region, and in the guard of a pending switch, which is of side `ctl`
pub record IsKept (a : PlainPlant) (c : PlainController) (r : RunPlace) : Type 0 where
  pub inside : InRegion a c.region r.state
  pub pending : (e : ℕ) → r.pending ≡ Some e → InGuard a c.guards e r.state
  pub side : (e : ℕ) → r.pending ≡ Some e → HasSide a e Ctl

-- no switch is not some switch
none_some : {P : Type 0} (e : ℕ) → None ≡ Some e → P
none_some e h = cc

-- equal pending switches have one number
pub same_number : (d e : ℕ) → Some d ≡ Some e → d ≡ e
same_number d e h = cc

-- at a state of the region with no switch pending all is kept
pub resting_kept : (a : PlainPlant) (c : PlainController) (s : PlainState) → InRegion a c.region s → IsKept a c (resting s)
resting_kept a c s h = record { inside = h; pending = λ e k. none_some e k; side = λ e k. none_some e k }

-- what one entry keeps, and the states that it visits
abbrev Kept : (a : PlainPlant) (c : PlainController) → PlainState → List PlainStep → RunPlace → Type 0
Kept a c s steps next = IsKept a c next × ((more : List PlainStep) → EachVisited (InRegion a c.region) next.state more → EachVisited (InRegion a c.region) s (steps ++ more))

-- a fact of steps and a place is one of equal steps and an equal place
carry : (P : List PlainStep → RunPlace → Type 0) (steps made : List PlainStep) (next there : RunPlace) → steps ≡ made → next ≡ there → P made there
    → P steps next
carry P steps made next there e f h = subst (λ (w : List PlainStep). P w next) (sym e) (subst (λ (w : RunPlace). P made w) (sym f) h)

module _ (choice : Choice) (a : PlainPlant) (c : PlainController) (valid : IsValid a c) (fit : IsLegalChoice a c.region choice) where
  -- a flow that passes whole keeps it
  passes_kept : (s : PlainState) (t : Number) (y : PlainPoint) → LegalFlow a s t y → PassesWhole a c s y
      → Kept a c s (flowed t y ∷ []) (resting (moved_to s y))
  passes_kept s t y legal whole =
      let inside = passes_inside a c s t y legal whole in
      let at_end = subst (λ (w : PlainState). InRegion a c.region w) (sym (end_state a s t y legal)) (inside unit end_place) in
      (resting_kept a c (moved_to s y) at_end, λ more rest. (inside, rest))

  -- up to the place at which a flow is stopped it is in the region
  stop_inside : (s : PlainState) (t : Number) (y : PlainPoint) (p : Number) (e : ℕ) → LegalFlow a s t y → StopsAt a c s y p e
      → (u : Number) → IsPlace u → lt p u ≡ false → InRegion a c.region (state_along s y u)
  stop_inside s t y p e legal stop u i le = upto_inside a c s t y p stop.end_place u legal stop.first stop.check stop.before i le

  -- the place at which a flow is stopped is one of the flow
  stop_place : (s : PlainState) (y : PlainPoint) (p : Number) (e : ℕ) → StopsAt a c s y p e → IsPlace p
  stop_place s y p e stop = check_is_place (run_rows a c s.loc) s.at y p stop.check

  -- the flow as far as it is run, and further steps
  stop_visited : (s : PlainState) (t : Number) (y : PlainPoint) (p : Number) (e : ℕ) → LegalFlow a s t y → StopsAt a c s y p e
      → (steps more : List PlainStep) → EachVisited (InRegion a c.region) (state_along s y p) (steps ++ more)
      → EachVisited (InRegion a c.region) s ((run_flow s t y p ++ steps) ++ more)
  stop_visited s t y p e legal stop steps more rest =
      let place = stop_place s y p e stop in
      let points : (q : Number) → IsPlace q → InRegion a c.region (state_along s (along s.at y p) q) =
      λ (q : Number) (i : IsPlace q). subst (λ (w : PlainState). InRegion a c.region w) (sym (part_along s y p q (flow_length a s t y legal))) (stop_inside s t y p e legal stop (interpolate nought p q) (part_place p q place i) (part_upto p q place i)) in
      by_bool (lt nought p)
      (λ f. rw f (points, rest))
      (λ f.
      let at_start : state_along s y p ≡ s = ap (λ w. state_along s y w) (sym (lt_antisymm nought p f place.from)) ∙ ap (λ w. moved_to s w) (along_start s.at y (flow_length a s t y legal)) in
      rw f (subst (λ (w : PlainState). EachVisited (InRegion a c.region) w (steps ++ more)) at_start rest))

  -- a flow that is stopped by a switch that is then pending keeps it
  stops_kept : (s : PlainState) (t : Number) (y : PlainPoint) (p : Number) (e : ℕ) → LegalFlow a s t y → StopsAt a c s y p e → HasSide a e Ctl
      → Kept a c s (run_flow s t y p ++ (switched e ∷ [])) (record { state = state_along s y p; pending = Some e })
  stops_kept s t y p e legal stop side = (
    record {
      inside = stop_inside s t y p e legal stop p (stop_place s y p e stop) (lt_irrefl p);
      pending = λ d k. subst (λ (n : ℕ). InGuard a c.guards n (state_along s y p)) (same_number e d k) stop.guard.holds;
      side = λ d k. subst (λ (n : ℕ). HasSide a n Ctl) (same_number e d k) side;
    },
    λ more rest. stop_visited s t y p e legal stop (switched e ∷ []) more rest,
  )

  -- a flow that is stopped by a switch whose result is chosen keeps it
  picks_kept : (s : PlainState) (t : Number) (y : PlainPoint) (p : Number) (e : ℕ) (z : PlainPoint) → LegalFlow a s t y → StopsAt a c s y p e
      → HasSide a e Pick → choice e (state_along s y p) ≡ Some z
      → Kept a c s (run_flow s t y p ++ (switched e ∷ landed (result_at a e z) ∷ [])) (resting (result_at a e z))
  picks_kept s t y p e z legal stop side picks =
      let there = (fit.legal e (state_along s y p) z stop.guard.holds.state stop.guard.holds.leaves picks).1 in (
        resting_kept a c (result_at a e z) there,
        λ more rest. stop_visited s t y p e legal stop (switched e ∷ landed (result_at a e z) ∷ []) more (there, rest),
      )

  -- one entry
  pub entry_kept : (r : RunPlace) (entry : PlainEntry) (steps : List PlainStep) (next : RunPlace) → IsKept a c r → IsLegalEntry a r entry
      → DoesEntry choice a c r entry steps next → Kept a c r.state steps next
  entry_kept r (flow_entry t y) steps next kept legal (inl h) = carry (Kept a c r.state) steps _ next _ h.does h.goes (passes_kept r.state t y legal.1 h.whole)
  entry_kept r (flow_entry t y) steps next kept legal (inr (inl h)) = carry (Kept a c r.state) steps _ next _ h.does h.goes (stops_kept r.state t y h.place h.switch legal.1 h.stops h.side)
  entry_kept r (flow_entry t y) steps next kept legal (inr (inr h)) =
      carry (Kept a c r.state) steps _ next _ h.does h.goes (picks_kept r.state t y h.place h.switch h.result legal.1 h.stops h.side h.picks)
  entry_kept r (env_entry e y) steps next kept legal h =
      let z = env_inside a c valid e r.state (result_at a e y) kept.inside legal.1 legal.2 in
      carry (Kept a c r.state) steps _ next _ h.0 h.1 (resting_kept a c (result_at a e y) z, λ more rest. (z, rest))
  entry_kept r (land_entry y) steps next kept legal h =
      let same : legal.0 ≡ h.0 = same_number legal.0 h.0 (sym legal.1 ∙ h.1) in
      let moved : LegalSwitch a h.0 r.state (result_at a h.0 y) = subst (λ (n : ℕ). LegalSwitch a n r.state (result_at a n y)) same legal.2 in
      let z = land_inside a c valid h.0 r.state (result_at a h.0 y) (kept.side h.0 h.1) (kept.pending h.0 h.1) moved in
      carry (Kept a c r.state) steps _ next _ h.2 h.3 (resting_kept a c (result_at a h.0 y) z, λ more rest. (z, rest))

  -- the visited states of entries are in the region
  runs_inside : (r : RunPlace) (entries : List PlainEntry) (trace : List PlainStep) (last : RunPlace) → IsKept a c r
      → RunsFrom choice a c r entries trace last → EachVisited (InRegion a c.region) r.state trace
  runs_inside r [] trace last kept h = subst (λ (w : List PlainStep). EachVisited (InRegion a c.region) r.state w) (sym h.0) tt
  runs_inside r (entry ∷ rest) trace last kept h =
      let k = entry_kept r entry h.0 h.1 kept h.3 h.4 in
      subst (λ (w : List PlainStep). EachVisited (InRegion a c.region) r.state w) (sym h.6) (k.1 h.2 (runs_inside h.1 rest h.2 last k.0 h.5))

  -- all visited states of a run are in the region
  pub run_inside : (start : PlainState) (entries : List PlainEntry) (trace : List PlainStep) (last : RunPlace) → IsRun choice a c start entries trace last
      → EachVisited (InRegion a c.region) start trace
  run_inside start entries trace last run =
      subst (λ (w : List PlainStep). EachVisited (InRegion a c.region) start w) (sym run.whole)
      (run.starts, runs_inside (resting start) entries run.steps last (resting_kept a c start run.starts) run.runs)
