-- A valid controller has a run over each legal log, and its visited states are in the region.
use Rattle.std.proofs.Common.{◌≡◌, ◌⊎◌, inl, inr, ℕ, List, [], ◌∷◌, ◌++◌, Option, IsSomeAnd, slice_get, refl, subst}
use Rattle.lhg_math.specs.Number.{Number}
use Rattle.lhg_row.specs.Row.{PlainPoint}
use Rattle.lhg_plant.specs.declared.plants.Side.{Side}
use Rattle.lhg_plant.specs.declared.plants.Side.TheVariants.{Ctl, Env, Pick}
use Rattle.lhg_plant.specs.Plant.{PlainPlant, PlainSwitch}
use Rattle.lhg_plant.specs.State.{PlainState}
use Rattle.lhg_plant.specs.Legal.{HasSide}
use Rattle.lhg_plant.specs.OutBack.{StaysBy}
use Rattle.lhg_plant.specs.Region.{InRegion, InGuard}
use Rattle.lhg_plant.specs.Controller.{PlainController, IsValid}
use Rattle.lhg_plant.specs.Choice.{Choice, IsLegalChoice}
use Rattle.lhg_plant.specs.Run.{PlainEntry, flow_entry, env_entry, land_entry, PlainStep, started, RunPlace, resting, state_along, StopsAt, IsLegalEntry, StopsFlow, PicksFlow, DoesEntry, RunsFrom, IsRun}
use Rattle.lhg_plant.specs.Log.{AllLegalFrom, IsLegalLog, StaysInside}
use Rattle.lhg_plant.proofs.Options.{find_some, there_some, some_there}
use Rattle.lhg_plant.proofs.StaysInside.{IsKept, resting_kept, entry_kept, run_inside}
use Rattle.lhg_plant.proofs.RunAnswers.{flow_answers}

module _ (choice : Choice) (a : PlainPlant) (c : PlainController) (valid : IsValid a c) (fit : IsLegalChoice a c.region choice) where
  -- what the controller does at a switch of its guards is told by its side
  abbrev Takes : ℕ → PlainState → Type 0
  Takes e z = HasSide a e Ctl ⊎ (HasSide a e Pick × StaysBy Pick a (InRegion a c.region) e z)

  -- a switch by which a state stays in the region is of side `ctl` or `pick`
  taken_by : (side : Side) (e : ℕ) (z : PlainState) → HasSide a e side → StaysBy side a (InRegion a c.region) e z → Takes e z
  taken_by Ctl e z h k = inl h
  taken_by Env e z h k = absurd k
  taken_by Pick e z h k = inr (h, k)

  -- so is one whose guard holds
  taken : (e : ℕ) (z : PlainState) → InGuard a c.guards e z → Takes e z
  taken e z guard =
      let back = (valid.guarded e z guard).1 in
      elim (find_some (slice_get a.switches e)) [
        | inl f ↦ taken_by f.0.side e z (there_some (slice_get a.switches e) f.0 (λ w. w.side ≡ f.0.side) f.1 refl) (some_there (slice_get a.switches e) f.0 (λ w. StaysBy w.side a (InRegion a c.region) e z) f.1 back)
        | inr n ↦ absurd (subst (λ (o : Option PlainSwitch). IsSomeAnd o (λ w. StaysBy w.side a (InRegion a c.region) e z)) n back)
      ]

  -- a flow that is stopped does something
  stop_does : (s : PlainState) (t : Number) (y : PlainPoint) (p : Number) (e : ℕ) → StopsAt a c s y p e
      → (steps : List PlainStep) × (next : RunPlace) × (StopsFlow a c s t y steps next ⊎ PicksFlow choice a c s t y steps next)
  stop_does s t y p e stop =
      elim (taken e (state_along s y p) stop.guard.holds) [
        | inl side ↦ (_, _, inl (record { place = p; switch = e; stops = stop; side = side; does = refl; goes = refl }))
        | inr k ↦
            (let z = fit.found e (state_along s y p) k.1.0 k.1.1 k.1.2 in
            (_, _, inr (record { place = p; switch = e; stops = stop; side = k.0; result = z.0; picks = z.1; does = refl; goes = refl })))
      ]

  -- a legal entry does something
  pub entry_does : (r : RunPlace) (entry : PlainEntry) → IsKept a c r → IsLegalEntry a r entry
      → (steps : List PlainStep) × (next : RunPlace) × DoesEntry choice a c r entry steps next
  entry_does r (flow_entry t y) kept legal =
      elim (flow_answers a c valid r.state t y legal.1 kept.inside) [
        | inl whole ↦ (_, _, inl (record { whole = whole; does = refl; goes = refl }))
        | inr stop ↦ (let d = stop_does r.state t y stop.0 stop.1 stop.2 in (d.0, d.1, inr d.2))
      ]
  entry_does r (env_entry e y) kept legal = (_, _, (refl, refl))
  entry_does r (land_entry y) kept legal = (_, _, (legal.0, legal.1, refl, refl))

  -- entries that are legal at their turns have a run
  run_from : (r : RunPlace) (entries : List PlainEntry) → IsKept a c r → AllLegalFrom choice a c r entries
      → (trace : List PlainStep) × (last : RunPlace) × RunsFrom choice a c r entries trace last
  run_from r [] kept legal = ([], r, (refl, refl))
  run_from r (entry ∷ rest) kept legal =
      let does = entry_does r entry kept legal.0 in
      let more = run_from does.1 rest (entry_kept choice a c valid fit r entry does.0 does.1 kept legal.0 does.2).0 (legal.1 does.0 does.1 does.2) in
      (does.0 ++ more.0, more.1, (does.0, does.1, more.0, legal.0, does.2, more.2, refl))

  -- a legal log has a run, and all its visited states are in the region
  pub stays : (start : PlainState) (entries : List PlainEntry) → IsLegalLog choice a c start entries → StaysInside choice a c start entries
  stays start entries log =
      let more = run_from (resting start) entries (resting_kept a c start log.starts) log.all_legal in
      let run : IsRun choice a c start entries (started start ∷ more.0) more.1 = record { starts = log.starts; steps = more.0; runs = more.2; whole = refl } in
      record { trace = started start ∷ more.0; last = more.1; run = run; inside = run_inside choice a c valid fit start entries (started start ∷ more.0) more.1 run }
