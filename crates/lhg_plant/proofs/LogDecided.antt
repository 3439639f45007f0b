-- For a valid controller a log is legal, or has a first illegal entry.
use Rattle.std.proofs.Common.{◌≡◌, ◌⊎◌, inl, inr, ℕ, zero, suc, List, [], ◌∷◌, ◌++◌, Option, Some, None, slice_get, refl, ap, subst}
use Rattle.lhg_math.specs.Number.{Number}
use Rattle.lhg_row.specs.Row.{PlainPoint}
use Rattle.lhg_row.specs.Piece.{InPiece}
use Rattle.lhg_row.specs.PieceLemmas.{piece_decided}
use Rattle.lhg_motion.specs.SpeedLemmas.{flow_decided}
use Rattle.lhg_plant.specs.declared.plants.Side.{Side}
use Rattle.lhg_plant.specs.declared.plants.Side.TheVariants.{Ctl, Env, Pick}
use Rattle.lhg_plant.specs.Plant.{PlainPlant}
use Rattle.lhg_plant.specs.State.{PlainState}
use Rattle.lhg_plant.specs.Legal.{LegalFlow, LegalSwitch}
use Rattle.lhg_plant.specs.Controller.{PlainController, IsValid}
use Rattle.lhg_plant.specs.Run.{PlainEntry, flow_entry, env_entry, land_entry, RunPlace, resting, IsLegalEntry}
use Rattle.lhg_plant.specs.Choice.{result_at, Choice, IsLegalChoice}
use Rattle.lhg_plant.specs.Log.{AllLegalFrom, IsLegalLog, IsIllegalFrom, IsFirstIllegal}
use Rattle.lhg_row.specs.Decisions.{nat_decided}
use Rattle.lhg_plant.proofs.Decided.{state_decided, region_decided}
use Rattle.lhg_plant.proofs.Options.{some_decided_by, some_there, there_some, find_some, none_there}
use Rattle.lhg_plant.proofs.StaysInside.{IsKept, resting_kept, entry_kept}
use Rattle.lhg_plant.proofs.RunExists.{entry_does}
use Rattle.lhg_plant.proofs.RunDetermined.{does_once}

-- a flow is legal or not
legal_flow_decided : (a : PlainPlant) (s : PlainState) (t : Number) (y : PlainPoint) → LegalFlow a s t y ⊎ ¬ LegalFlow a s t y
legal_flow_decided a s t y =
    elim (state_decided a s) [
      | inl e ↦ elim (some_decided_by _ (λ l. flow_decided l.inv l.flow s.at t y) (slice_get a.locs s.loc)) [ inl h ↦ inl (record { start = e; flow = h }) | inr h ↦ inr (λ k. h k.flow) ]
      | inr e ↦ inr (λ k. e k.start)
    ]

-- a switch to a result is legal or not
pub legal_switch_decided : (a : PlainPlant) (e : ℕ) (s z : PlainState) → LegalSwitch a e s z ⊎ ¬ LegalSwitch a e s z
legal_switch_decided a e s z =
    let o = slice_get a.switches e in
    elim (find_some o) [
      | inr n ↦ inr (λ k. none_there o k.switch n k.is_there)
      | inl f ↦ elim (nat_decided f.0.from s.loc) [
        | inr n ↦ inr (λ k. n (some_there o f.0 (λ w. w.from ≡ s.loc) f.1 (there_some o k.switch (λ w. w.from ≡ s.loc) k.is_there k.leaves)))
        | inl l ↦ elim (nat_decided f.0.to z.loc) [
          | inr n ↦ inr (λ k. n (some_there o f.0 (λ w. w.to ≡ z.loc) f.1 (there_some o k.switch (λ w. w.to ≡ z.loc) k.is_there k.enters)))
          | inl m ↦ elim (state_decided a s) [
            | inr n ↦ inr (λ k. n k.start)
            | inl i ↦ elim (state_decided a z) [
              | inr n ↦ inr (λ k. n k.result)
              | inl j ↦ elim (piece_decided f.0.jump (s.at ++ z.at)) [
                | inr n ↦ inr (λ k. n (some_there o f.0 (λ w. InPiece w.jump (s.at ++ z.at)) f.1 (there_some o k.switch (λ w. InPiece w.jump (s.at ++ z.at)) k.is_there k.jump)))
                | inl q ↦ inl (record { switch = f.0; is_there = f.1; leaves = l; enters = m; start = i; result = j; jump = q })
              ]
            ]
          ]
        ]
      ]
    ]

-- a switch is uncontrollable or not
side_decided : (s : Side) → (s ≡ Env) ⊎ ¬ (s ≡ Env)
side_decided Ctl = inr (λ e. cc)
side_decided Env = inl refl
side_decided Pick = inr (λ e. cc)

-- a switch is pending or none is
pending_decided : (o : Option ℕ) → (o ≡ None) ⊎ ((e : ℕ) × (o ≡ Some e))
pending_decided None = inl refl
pending_decided (Some e) = inr (e, refl)

-- one switch alone is pending
same_pending : (o : Option ℕ) (d e : ℕ) → o ≡ Some d → o ≡ Some e → d ≡ e
same_pending o d e h k = cc

-- an entry is legal where the run stands or not
pub entry_decided : (a : PlainPlant) (r : RunPlace) (entry : PlainEntry) → IsLegalEntry a r entry ⊎ ¬ IsLegalEntry a r entry
entry_decided a r (flow_entry t y) =
    elim (pending_decided r.pending) [
      | inl n ↦ elim (legal_flow_decided a r.state t y) [ inl h ↦ inl (n, h) | inr h ↦ inr (λ k. h k.1) ]
      | inr p ↦ inr (λ k. none_there r.pending p.0 k.0 p.1)
    ]
entry_decided a r (env_entry e y) =
    elim (pending_decided r.pending) [
      | inl n ↦ elim (some_decided_by _ (λ w. side_decided w.side) (slice_get a.switches e)) [
        | inl s ↦ elim (legal_switch_decided a e r.state (result_at a e y)) [ inl h ↦ inl (n, s, h) | inr h ↦ inr (λ k. h k.2) ]
        | inr s ↦ inr (λ k. s k.1)
      ]
      | inr p ↦ inr (λ k. none_there r.pending p.0 k.0 p.1)
    ]
entry_decided a r (land_entry y) =
    elim (pending_decided r.pending) [
      | inl n ↦ inr (λ k. none_there r.pending k.0 n k.1)
      | inr p ↦ elim (legal_switch_decided a p.0 r.state (result_at a p.0 y)) [
        | inl h ↦ inl (p.0, p.1, h)
        | inr h ↦ inr (λ k. h (subst (λ (n : ℕ). LegalSwitch a n r.state (result_at a n y)) (same_pending r.pending k.0 p.0 k.1 p.1) k.2))
      ]
    ]

module _ (choice : Choice) (a : PlainPlant) (c : PlainController) (valid : IsValid a c) (fit : IsLegalChoice a c.region choice) where
  -- from each place that a run keeps all entries are legal, or one is the first that is not
  log_from : (r : RunPlace) (entries : List PlainEntry) → IsKept a c r → AllLegalFrom choice a c r entries ⊎ ((k : ℕ) × IsIllegalFrom choice a c r entries k)
  log_from r [] kept = inl tt
  log_from r (entry ∷ rest) kept =
      elim (entry_decided a r entry) [
        | inr n ↦ inr (zero, n)
        | inl legal ↦
            (let does = entry_does choice a c valid fit r entry kept legal in
            elim (log_from does.1 rest (entry_kept choice a c valid fit r entry does.0 does.1 kept legal does.2).0) [
              | inl all ↦ inl (legal, λ steps next d. subst (λ (w : RunPlace). AllLegalFrom choice a c w rest) (does_once choice a c r entry does.0 steps does.1 next does.2 d).1 all)
              | inr bad ↦ inr (suc bad.0, (legal, does.0, does.1, does.2, bad.1))
            ])
      ]

  -- a log is legal, or has a first illegal entry
  pub log_decided : (start : PlainState) (entries : List PlainEntry) → IsLegalLog choice a c start entries ⊎ ((n : ℕ) × IsFirstIllegal choice a c start entries n)
  log_decided start entries =
      elim (region_decided a c.region start) [
        | inr n ↦ inr (zero, n)
        | inl h ↦ elim (log_from (resting start) entries (resting_kept a c start h)) [ inl all ↦ inl (record { starts = h; all_legal = all }) | inr bad ↦ inr (suc bad.0, (h, bad.1)) ]
      ]

-- where all entries are legal none is the first that is not
none_illegal : (choice : Choice) (a : PlainPlant) (c : PlainController) (r : RunPlace) (entries : List PlainEntry) (k : ℕ) → AllLegalFrom choice a c r entries
    → IsIllegalFrom choice a c r entries k → ⊥
none_illegal choice a c r [] k legal h = h
none_illegal choice a c r (entry ∷ rest) zero legal h = h legal.0
none_illegal choice a c r (entry ∷ rest) (suc k) legal h = none_illegal choice a c h.2 rest k (legal.1 h.1 h.2 h.3) h.4

-- a legal log has no first illegal entry
pub legal_or_illegal : (choice : Choice) (a : PlainPlant) (c : PlainController) (start : PlainState) (entries : List PlainEntry) (n : ℕ) → IsLegalLog choice a c start entries
    → IsFirstIllegal choice a c start entries n → ⊥
legal_or_illegal choice a c start entries zero log h = h log.starts
legal_or_illegal choice a c start entries (suc k) log h = none_illegal choice a c _ entries k log.all_legal h.1

-- entries have at most one first one that is not legal at its turn
illegal_once : (choice : Choice) (a : PlainPlant) (c : PlainController) (r : RunPlace) (entries : List PlainEntry) (k l : ℕ) → IsIllegalFrom choice a c r entries k
    → IsIllegalFrom choice a c r entries l → k ≡ l
illegal_once choice a c r [] k l h i = absurd h
illegal_once choice a c r (entry ∷ rest) zero zero h i = refl
illegal_once choice a c r (entry ∷ rest) zero (suc l) h i = absurd (h i.0)
illegal_once choice a c r (entry ∷ rest) (suc k) zero h i = absurd (i h.0)
illegal_once choice a c r (entry ∷ rest) (suc k) (suc l) h i =
    let same = does_once choice a c r entry h.1 i.1 h.2 i.2 h.3 i.3 in
    ap suc (illegal_once choice a c i.2 rest k l (subst (λ (w : RunPlace). IsIllegalFrom choice a c w rest k) same.1 h.4) i.4)

-- a log has at most one first illegal entry
pub first_illegal_once : (choice : Choice) (a : PlainPlant) (c : PlainController) (start : PlainState) (entries : List PlainEntry) (m n : ℕ)
    → IsFirstIllegal choice a c start entries m → IsFirstIllegal choice a c start entries n → m ≡ n
first_illegal_once choice a c start entries zero zero h i = refl
first_illegal_once choice a c start entries zero (suc n) h i = absurd (h i.0)
first_illegal_once choice a c start entries (suc m) zero h i = absurd (i h.0)
first_illegal_once choice a c start entries (suc m) (suc n) h i = ap suc (illegal_once choice a c (resting start) entries m n h.1 i.1)
