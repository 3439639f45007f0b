-- What the controller does at its switch.
use Rattle.std.proofs.Common.{◌≡◌, inl, inr, ℕ, ◌<◌, List, [], ◌∷◌, ◌++◌, length, Option, Some, slice_get, get_or, refl, sym, ap, ◌∙◌, subst, append_assoc}
use Rattle.std.proofs.lemmas.List.{map-append}
use Rattle.std.specs.Option.{IsSome}
use Rattle.lhg_math.specs.Number.{Number, mul}
use Rattle.lhg_row.specs.Piece.{PlainPiece}
use Rattle.lhg_row.specs.Row.{PlainPoint}
use Rattle.lhg_play.specs.Views.{plain_step, plain_steps}
use Rattle.lhg_play.specs.declared.traces.Step.{Step}
use Rattle.lhg_play.specs.declared.traces.Step.TheVariants.{Switch, Land}
use Rattle.lhg_plant.specs.declared.plants.Side.{Side}
use Rattle.lhg_plant.specs.declared.plants.Side.TheVariants.{Ctl, Pick}
use Rattle.lhg_plant.specs.declared.states.State.{State}
use Rattle.lhg_plant.specs.Plant.{PlainPlant, PlainSwitch}
use Rattle.lhg_plant.specs.State.{PlainState, moved_to}
use Rattle.lhg_plant.specs.Legal.{HasSide}
use Rattle.lhg_plant.specs.Pick.{first_result, pick_by, picked_result}
use Rattle.lhg_plant.specs.Proper.{IsSwitch, IsProper}
use Rattle.lhg_plant.specs.Region.{PlainRegion}
use Rattle.lhg_plant.specs.Controller.{PlainController}
use Rattle.lhg_plant.specs.Run.{PlainStep, switched, landed, RunPlace, resting}
use Rattle.lhg_plant.specs.Choice.{result_at}
use Rattle.lhg_plant.specs.Views.{plain_state}
use Rattle.lhg_plant.proofs.Options.{some_there, there_some}
use Rattle.lhg_plant.proofs.Picks.{all_at}
use Rattle.lhg_run.specs.Seen.{Course, MayTake, IsPicked, IsStopDone, steps_to, plain_done}
use Rattle.lhg_run.specs.Views.{plain_place}
use Rattle.lhg_run.specs.declared.doing.Done.{Done}
use Rattle.lhg_run.specs.declared.ways.Stop.{Stop}
use Rattle.lhg_run.proofs.MoveSteps.{result-is}

-- two equal pairs
pair : (x y : List PlainStep) (u v : RunPlace) → x ≡ y → u ≡ v → ◌≡◌ {A = Course} (x, u) (y, v)
pair x y u v e f =
    let left : List PlainStep → Course = λ (w : List PlainStep). (w, u) in
    let right : RunPlace → Course = λ (w : RunPlace). (y, w) in
    ap left e ∙ ap right f

module _ (a : PlainPlant) (e : ℕ) (w : PlainSwitch) (there : slice_get a.switches e ≡ Some w) where
  -- the location that the switch enters is there
  pub enters : IsProper a → w.to < length a.locs
  enters proper = (all_at (IsSwitch (length a.vars) (length a.locs)) a.switches e w proper.switches there).to

  module _ (region : PlainRegion) (x : PlainPoint) (n : ℕ) (n_is : n ≡ length a.vars) (jump : PlainPiece) (jump_is : jump ≡ w.jump) (ps : List PlainPiece) (ps_is : ps ≡ get_or region w.to []) where
    -- what is sought in the pieces is the picked result
    pub picked-same : first_result n x jump ps ≡ picked_result a region e (record { loc = 0; at = x })
    picked-same =
        ap (λ k. first_result k x jump ps) n_is ∙ ap (λ js. first_result (length a.vars) x js ps) jump_is ∙ ap (first_result (length a.vars) x w.jump) ps_is
        ∙ ap (pick_by a region x) (sym there)

  -- the steps end with the result, at which the run rests
  pub pick-done : (steps new : List Step) (landing : State) (x : PlainPoint) → new ≡ steps ++ Land landing ∷ [] → plain_state landing ≡ record { loc = w.to; at = x }
      → ◌≡◌ {A = Course} (plain_steps new, resting (record { loc = w.to; at = x })) (plain_steps steps ++ landed (result_at a e x) ∷ [], resting (result_at a e x))
  pick-done steps new landing x h k =
      let z = result-is a e (record { loc = 0; at = x }) x w there in
      pair (plain_steps new) (plain_steps steps ++ landed (result_at a e x) ∷ []) (resting (record { loc = w.to; at = x })) (resting (result_at a e x))
      (ap plain_steps h ∙ map-append plain_step steps (Land landing ∷ []) ∙ ap (λ u. plain_steps steps ++ landed u ∷ []) (k ∙ z))
      (ap resting z)

  -- a switch that may be taken and is not of side `pick` is of side `ctl`
  pub other-side : (c : PlainController) (s : PlainState) → MayTake a c s e → ¬ (w.side ≡ Pick) → HasSide a e Ctl
  other-side c s (inl h) not = h
  other-side c s (inr h) not = absurd (not (some_there (slice_get a.switches e) w (λ v. v.side ≡ Pick) there h.0))

  -- the side of the switch that is there
  pub its-side : (side : Side) → w.side ≡ side → HasSide a e side
  its-side side h = there_some (slice_get a.switches e) w (λ v. v.side ≡ side) there h

-- where some result is picked, it is found
pub some-found : (o : Option PlainPoint) (z : PlainPoint) → o ≡ Some z → IsSome o
some-found o z h = subst (λ p. IsSome p) (sym h) refl

-- the steps up to a stop and the switch
pub with-switch : (steps new : List Step) (to : List PlainStep) (e : ℕ) → plain_steps steps ≡ to → new ≡ steps ++ Switch e ∷ [] → plain_steps new ≡ to ++ switched e ∷ []
with-switch steps new to e h k = ap plain_steps k ∙ map-append plain_step steps (Switch e ∷ []) ∙ ap (λ us. us ++ switched e ∷ []) h

module _ (a : PlainPlant) (c : PlainController) (s : PlainState) (t : Number) (stop : Stop) (done : Done) where
  -- the steps to the stop
  abbrev to_stop : List PlainStep
  to_stop = steps_to (mul stop.place t) stop

  -- the switch is pending
  pub stop-pending : HasSide a stop.switch Ctl → plain_steps done.steps.items ≡ to_stop ++ switched stop.switch ∷ []
      → plain_place done.state done.pending ≡ record { state = moved_to s stop.at; pending = Some stop.switch } → IsStopDone a c s t stop done
  stop-pending side h k = inl (side, pair _ _ _ _ h k)

  -- its result is picked
  pub stop-picked : HasSide a stop.switch Pick → (steps : List PlainStep) → steps ≡ to_stop ++ switched stop.switch ∷ []
      → (z : PlainPoint) × IsPicked a c (record { loc = 0; at = stop.at }) stop.switch z × (plain_done done ≡ (steps ++ landed (result_at a stop.switch z) ∷ [], resting (result_at a stop.switch z)))
      → IsStopDone a c s t stop done
  stop-picked side steps e h =
      let x = result_at a stop.switch h.0 in
      inr (side, h.0, h.1, h.2 ∙ pair _ _ _ _ (ap (λ us. us ++ landed x ∷ []) e ∙ append_assoc to_stop (switched stop.switch ∷ []) (landed x ∷ [])) refl)
