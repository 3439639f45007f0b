-- What an entry does that gives a result.
use Rattle.std.proofs.Common.{◌≡◌, ◌<◌, ℕ, zero, suc, List, [], ◌∷◌, length, map, get_or, Option, Some, slice_get, refl, sym, ap, ◌∙◌, subst, arith}
use Rattle.lhg_row.specs.Row.{PlainPoint}
use Rattle.lhg_plant.specs.declared.plants.Side.TheVariants.{Env}
use Rattle.lhg_plant.specs.declared.plants.Switch.{Switch}
use Rattle.lhg_plant.specs.Plant.{PlainPlant, PlainSwitch}
use Rattle.lhg_plant.specs.State.{PlainState}
use Rattle.lhg_plant.specs.Legal.{HasSide, LegalSwitch, LegalSwitchTo}
use Rattle.lhg_plant.specs.Controller.{PlainController}
use Rattle.lhg_plant.specs.Run.{PlainStep, landed, env_switched, resting, env_entry, land_entry}
use Rattle.lhg_plant.specs.Choice.{target_in, result_at}
use Rattle.lhg_plant.specs.Views.{plain_switch}
use Rattle.lhg_run.specs.Seen.{Course, IsTaken, plain_done}
use Rattle.lhg_run.specs.declared.doing.Done.{Done}

-- the switch at a place
pub switch-there : (ws : List Switch) (e : ℕ) (w : Switch) → e < length ws → w ≡ get_or ws e w → slice_get (map plain_switch ws) e ≡ Some (plain_switch w)
switch-there [] e w h is = absurd (omega arith)
switch-there (v ∷ ws) zero w h is = ap (λ (u : Switch). Some (plain_switch u)) (sym is)
switch-there (v ∷ ws) (suc e) w h is = switch-there ws e w (omega arith) is

module _ (a : PlainPlant) (e : ℕ) (s : PlainState) (y : PlainPoint) where
  -- the result is at the point of the location that the switch enters
  pub result-is : (w : PlainSwitch) → slice_get a.switches e ≡ Some w → record { loc = w.to; at = y } ≡ result_at a e y
  result-is w is = ap (λ (o : Option PlainSwitch). record { loc = target_in o; at = y }) (sym is)

  -- a legal switch leads to it
  pub legal-result : LegalSwitchTo a e s y → LegalSwitch a e s (result_at a e y)
  legal-result h =
      let l = h.1 in
      let there : record { loc = h.0; at = y } ≡ result_at a e y = ap (λ (n : ℕ). record { loc = n; at = y }) (sym l.enters) ∙ result-is l.switch l.is_there in
      subst (LegalSwitch a e s) there l

  -- and back
  pub result-legal : LegalSwitch a e s (result_at a e y) → LegalSwitchTo a e s y
  result-legal l = (target_in (slice_get a.switches e), l)

  module _ (c : PlainController) (done : Done) (w : PlainSwitch) (is : slice_get a.switches e ≡ Some w) (legal : LegalSwitchTo a e s y) where
    -- an uncontrollable switch is done
    pub env-taken : HasSide a e Env → (step : PlainStep) → step ≡ env_switched e (record { loc = w.to; at = y }) → plain_done done ≡ (step ∷ [], resting (record { loc = w.to; at = y }))
        → IsTaken a c (resting s) (env_entry e y) (Some done)
    env-taken side step this h =
        let z = result-is w is in (
          (refl, side, legal-result legal),
          (
            ap (λ (k : Course). k.0) h ∙ ap (λ t. t ∷ []) (this ∙ ap (env_switched e) z),
            ap (λ (k : Course). k.1) h ∙ ap resting z,
          ),
        )

    -- the result of a pending switch is given
    pub land-taken : (step : PlainStep) → step ≡ landed (record { loc = w.to; at = y }) → plain_done done ≡ (step ∷ [], resting (record { loc = w.to; at = y }))
        → IsTaken a c (record { state = s; pending = Some e }) (land_entry y) (Some done)
    land-taken step this h =
        let z = result-is w is in (
          (e, refl, legal-result legal),
          (
            e,
            refl,
            ap (λ (k : Course). k.0) h ∙ ap (λ t. t ∷ []) (this ∙ ap landed z),
            ap (λ (k : Course). k.1) h ∙ ap resting z,
          ),
        )
