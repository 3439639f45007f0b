-- What a flow does that is stopped.
use Rattle.std.proofs.Common.{◌≡◌, ◌⊎◌, inl, inr, ℕ, [], ◌∷◌, ◌++◌, Option, Some, IsSomeAnd, slice_get, true, cond, refl, ap, ◌∙◌, subst}
use Rattle.lhg_math.specs.Number.{Number, mul, lt, nought}
use Rattle.lhg_row.specs.Row.{PlainPoint}
use Rattle.lhg_motion.specs.Segment.{along}
use Rattle.lhg_play.specs.Views.{plain_steps}
use Rattle.lhg_plant.specs.declared.plants.Side.{Side}
use Rattle.lhg_plant.specs.declared.plants.Side.TheVariants.{Ctl, Env, Pick}
use Rattle.lhg_plant.specs.Plant.{PlainPlant, PlainSwitch}
use Rattle.lhg_plant.specs.State.{PlainState, moved_to}
use Rattle.lhg_plant.specs.Legal.{HasSide}
use Rattle.lhg_plant.specs.OutBack.{StaysBy}
use Rattle.lhg_plant.specs.Proper.{IsProper}
use Rattle.lhg_plant.specs.Inside.{IsRegionInside}
use Rattle.lhg_plant.specs.Pick.{picked_result, picks}
use Rattle.lhg_plant.specs.Region.{InRegion, InGuard}
use Rattle.lhg_plant.specs.Controller.{PlainController, IsValid}
use Rattle.lhg_plant.specs.Run.{flowed, switched, landed, state_along, run_flow, StopsAt, StopsFlow, PicksFlow}
use Rattle.lhg_plant.specs.Choice.{result_at}
use Rattle.lhg_plant.proofs.Options.{find_some, there_some, some_there}
use Rattle.lhg_plant.proofs.Picks.{picks_legal}
use Rattle.lhg_run.specs.Numbers.{HasWideStop, HasLongStop}
use Rattle.lhg_run.specs.Seen.{MayTake, IsStopDone, IsWideStop, IsLongStop, IsPicked, steps_to}
use Rattle.lhg_run.specs.Views.{plain_place}
use Rattle.lhg_run.specs.declared.doing.Done.{Done}
use Rattle.lhg_run.specs.declared.ways.Stop.{Stop}

module _ (a : PlainPlant) (c : PlainController) (valid : IsValid a c) (proper : IsProper a) (inside : IsRegionInside a c.region) where
  -- a switch by which a state stays in the region is pending, or has a result that is picked
  taken_by : (side : Side) (e : ℕ) (z : PlainState) → HasSide a e side → StaysBy side a (InRegion a c.region) e z → MayTake a c z e
  taken_by Ctl e z h k = inl h
  taken_by Env e z h k = absurd k
  taken_by Pick e z h k = let f = (picks_legal a c.region proper inside).found e z k.0 k.1 k.2 in inr (h, f.0, f.1)

  -- so does one whose guard holds
  pub guard_taken : (e : ℕ) (z : PlainState) → InGuard a c.guards e z → MayTake a c z e
  guard_taken e z guard =
      let back = (valid.guarded e z guard).1 in
      elim (find_some (slice_get a.switches e)) [
        | inl f ↦ taken_by f.0.side e z (there_some (slice_get a.switches e) f.0 (λ w. w.side ≡ f.0.side) f.1 refl) (some_there (slice_get a.switches e) f.0 (λ w. StaysBy w.side a (InRegion a c.region) e z) f.1 back)
        | inr n ↦ absurd (subst (λ (o : Option PlainSwitch). IsSomeAnd o (λ w. StaysBy w.side a (InRegion a c.region) e z)) n back)
      ]

module _ (a : PlainPlant) (c : PlainController) (s : PlainState) (t : Number) (y : PlainPoint) (stop : Stop) (stops : StopsAt a c s y stop.place stop.switch) (point : stop.at ≡ along s.at y stop.place) where
  -- the state at the stop
  there : moved_to s stop.at ≡ state_along s y stop.place
  there = ap (moved_to s) point

  -- the steps up to it
  up_to : steps_to (mul stop.place t) stop ≡ run_flow s t y stop.place
  up_to = ap (λ w. cond (lt nought stop.place) (flowed (mul stop.place t) w ∷ []) []) point

  -- a stop does what the run does
  pub stop_does : (done : Done) → IsStopDone a c s t stop done
      → StopsFlow a c s t y (plain_steps done.steps.items) (plain_place done.state done.pending) ⊎ PicksFlow (picks a c.region) a c s t y (plain_steps done.steps.items) (plain_place done.state done.pending)
  stop_does done (inl h) = inl (record {
    place = stop.place;
    switch = stop.switch;
    stops = stops;
    side = h.0;
    does = ap (λ w. w.0) h.1 ∙ ap (λ w. w ++ (switched stop.switch ∷ [])) up_to;
    goes = ap (λ w. w.1) h.1 ∙ ap (λ (w : PlainState). record { state = w; pending = Some stop.switch }) there;
  })
  stop_does done (inr h) = inr (record {
    place = stop.place;
    switch = stop.switch;
    stops = stops;
    side = h.0;
    result = h.1;
    picks = subst (λ w. IsPicked a c w stop.switch h.1) there h.2;
    does = ap (λ w. w.0) h.3 ∙ ap (λ w. w ++ (switched stop.switch ∷ landed (result_at a stop.switch h.1) ∷ [])) up_to;
    goes = ap (λ w. w.1) h.3;
  })

  -- its numbers are those of the run
  pub stop_wide : IsWideStop a c s t stop → HasWideStop a c s t y
  stop_wide h = record {
    place = stop.place;
    switch = stop.switch;
    stops = stops;
    wide = elim h [ inl k ↦ inl k | inr k ↦ inr (k.0, subst (λ w. (picked_result a c.region stop.switch w).wide ≡ true) there k.1) ];
  }

  -- and its lists
  pub stop_long : IsLongStop a c s stop → HasLongStop a c s y
  stop_long h = record {
    place = stop.place;
    switch = stop.switch;
    stops = stops;
    side = h.0;
    rows = subst (λ w. (picked_result a c.region stop.switch w).rows ≡ true) there h.1;
  }
