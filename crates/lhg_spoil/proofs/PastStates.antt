-- The pieces outside a round hold exactly the states that lie outside it.
use Rattle.std.proofs.Common.{◌≡◌, ◌↔◌, ◌⊎◌, inl, inr, ◌<◌, ◌≤◌, ℕ, zero, suc, Bool, true, not, cond, ◌&&◌, List, [], ◌∷◌, ◌++◌, map, length, get_or, slice_get, nat_eq, refl, sym, ap, ◌∙◌, subst, arith}
use Rattle.std.specs.Prelude.{Contains, nat_lt}
use Rattle.std.proofs.lemmas.Bool.{ltb-true, ltb-false, eqb-true, eq-eqb, and_parts}
use Rattle.std.proofs.lemmas.List.Elements.{Contains-append_right}
use Rattle.lhg_math.specs.Tests.{AllOf, by_bool}
use Rattle.lhg_num.specs.FracArithmetic.{frac_arithmetic, frac_is_lawful}
use Rattle.lhg_num.specs.MarkedLaws.{each-value}
use Rattle.lhg_row.specs.Decisions.{clash}
use Rattle.lhg_row.specs.Row.{PlainPoint}
use Rattle.lhg_row.specs.Piece.{PlainPiece, InPiece, InSome}
use Rattle.lhg_row.specs.Width.{AllWide}
use Rattle.lhg_row.specs.Members.{SomeOf}
use Rattle.lhg_row.specs.PieceFacts.{AllOver, AllPolys}
use Rattle.lhg_row.specs.MinusLaws.{minus-exact}
use Rattle.lhg_row.specs.CoveredLaws.{minus-polys, polys-over}
use Rattle.lhg_plant.specs.Plant.{PlainLocation, PlainPlant}
use Rattle.lhg_plant.specs.Proper.{IsProper}
use Rattle.lhg_plant.specs.State.{PlainState, IsState}
use Rattle.lhg_plant.specs.Invariants.{pieces_at, invariant_at}
use Rattle.lhg_plant.specs.SafeRegion.{safe_list, safe_region}
use Rattle.lhg_plant.specs.SwitchFacts.{state_at}
use Rattle.lhg_plant.specs.Rank.{HasRank, IsPast}
use Rattle.lhg_plant.specs.Round.{InRound, IsRemovedIn}
use Rattle.lhg_plant.specs.Loss.{PlainLoss, InLoss}
use Rattle.lhg_plant.proofs.InvariantPoints.{invariant-points, invariant-polys}
use Rattle.lhg_plant.proofs.ListSteps.{difference-in}
use Rattle.lhg_plant.proofs.Rounds.{removed_once}
use Rattle.lhg_plant.proofs.SafeStates.{safe_region_is, safe_region-inside}
use Rattle.lhg_loss.specs.Records.{pieces_lost}
use Rattle.lhg_spoil.specs.Fibres.{safe_of, safe_at, unsafe_at, losses_past, past_at}
use Rattle.lhg_spoil.specs.Known.{AreKnown}

-- ---- unsafe states
safe-place : (n : ℕ) (locs : List PlainLocation) (l : ℕ) → get_or (map (λ k. (safe_list n k).value) locs) l [] ≡ (safe_of n (slice_get locs l)).value
safe-place n [] l = refl
safe-place n (loc ∷ locs) zero = refl
safe-place n (loc ∷ locs) (suc l) = safe-place n locs l

-- the safe pieces of one location are those of the list for all
safe-at : (a : PlainPlant) (l : ℕ) → pieces_at (safe_region a).value l ≡ (safe_at a l).value
unfolding safe_region
safe-at a l = ap (λ r. get_or r l []) (each-value (safe_list (length a.vars)) a.locs) ∙ safe-place (length a.vars) a.locs l

module _ (a : PlainPlant) (proper : IsProper a) (l : ℕ) where
  abbrev inv : List PlainPiece
  inv = (invariant_at a l).value

  abbrev safe : List PlainPiece
  safe = (safe_at a l).value

  safe-over : AllOver (length a.vars) safe
  safe-over = subst (AllOver (length a.vars)) (safe-at a l) ((safe_region-inside a proper).over l)

  inv-polys : AllPolys frac_arithmetic (length a.vars) inv
  inv-polys = invariant-polys a proper l

  -- the unsafe pieces are over the plant's variables
  pub unsafe-over : AllOver (length a.vars) (unsafe_at a l).value
  unfolding unsafe_at
  unsafe-over = polys-over frac_arithmetic (length a.vars) (unsafe_at a l).value (minus-polys frac_arithmetic (length a.vars) inv safe frac_is_lawful inv-polys safe-over)

  -- they hold exactly the states of rank 0
  pub unsafe-exact : (p : PlainPoint) → length p ≡ length a.vars → InSome (unsafe_at a l).value p ↔ HasRank a 0 (state_at l p)
  unfolding unsafe_at
  unsafe-exact p fits =
      let d = difference-in (length a.vars) inv safe (unsafe_at a l).value p fits
      (minus-exact frac_arithmetic (length a.vars) inv safe frac_is_lawful (polys-over frac_arithmetic (length a.vars) inv inv-polys) safe-over) in
      let i = invariant-points a proper l p fits in
      let s = safe_region_is a proper (state_at l p) in (
        λ h. (i.0 (d.0 h).0, λ k. (d.0 h).1 (subst (λ ps. InSome ps p) (safe-at a l) (s.1 k).some)),
        λ h. d.1 (i.1 h.0, λ k. h.1 (s.0 (record { state = h.0; some = subst (λ ps. InSome ps p) (sym (safe-at a l)) k }))),
      )

-- ---- records
-- a member with the fact is some member with it
contained_at : {A : Type 0} (P : A → Type 0) (xs : List A) (x : A) (k : ℕ) → k < length xs → get_or xs k x ≡ x → P x → SomeOf P xs
contained_at P [] x k l e h = absurd (omega arith)
contained_at P (y ∷ xs) x zero l e h = inl (subst P (sym e) h)
contained_at P (y ∷ xs) x (suc k) l e h = inr (contained_at P xs x k (omega arith) e h)

pub contained_some : {A : Type 0} (P : A → Type 0) (xs : List A) (x : A) → Contains xs x → P x → SomeOf P xs
contained_some P xs x c h = contained_at P xs x c.0 c.1 c.2 h

-- and back
pub some_contained : {A : Type 0} (P : A → Type 0) (xs : List A) → SomeOf P xs → (x : A) × Contains xs x × P x
some_contained P [] h = absurd h
some_contained P (y ∷ xs) (inl h) = (y, (zero, omega arith, refl), h)
some_contained P (y ∷ xs) (inr h) = let t = some_contained P xs h in (t.0, Contains-append_right (y ∷ []) xs t.0 t.1, t.2)

module _ (l j : ℕ) (p : PlainPoint) where
  -- the record is of the location, of a round up to j, and holds the point
  pub record HoldsPast (r : PlainLoss) : Type 0 where
    pub here : r.loc ≡ l
    pub within : r.round ≤ j
    pub inside : InPiece r.piece p

  abbrev passes : PlainLoss → Bool
  passes r = nat_eq r.loc l && not (nat_lt j r.round)

  not_past : (r : PlainLoss) → not (nat_lt j r.round) ≡ true → r.round ≤ j
  not_past r e = by_bool (nat_lt j r.round) (λ f. clash (not (nat_lt j r.round)) e (ap not f)) (λ f. ltb-false j r.round f)

  past_not : (r : PlainLoss) → r.round ≤ j → not (nat_lt j r.round) ≡ true
  past_not r h = by_bool (nat_lt j r.round) (λ f. (let less = ltb-true j r.round f in absurd (omega arith))) (λ f. ap not f)

  passed : (r : PlainLoss) → passes r ≡ true → (r.loc ≡ l) × (r.round ≤ j)
  passed r e = let t = and_parts (nat_eq r.loc l) (not (nat_lt j r.round)) e in (eqb-true r.loc l t.0, not_past r t.1)

  passing : (r : PlainLoss) → r.loc ≡ l → r.round ≤ j → passes r ≡ true
  passing r e h = rw (eq-eqb r.loc l e, past_not r h) refl

  pub past-from : (losses : List PlainLoss) → InSome (pieces_lost (losses_past l j losses)) p → SomeOf HoldsPast losses
  past-from [] h = absurd h
  past-from (r ∷ rs) h =
      by_bool (passes r)
      (λ e. elim (subst (λ (b : Bool). InSome (pieces_lost (cond b (r ∷ losses_past l j rs) (losses_past l j rs))) p) e h) [
        | inl k ↦ inl (let t = passed r e in record { here = t.0; within = t.1; inside = k })
        | inr k ↦ inr (past-from rs k)
      ])
      (λ e. inr (past-from rs (subst (λ (b : Bool). InSome (pieces_lost (cond b (r ∷ losses_past l j rs) (losses_past l j rs))) p) e h)))

  pub past-to : (losses : List PlainLoss) → SomeOf HoldsPast losses → InSome (pieces_lost (losses_past l j losses)) p
  past-to [] h = absurd h
  past-to (r ∷ rs) (inl h) = subst (λ (b : Bool). InSome (pieces_lost (cond b (r ∷ losses_past l j rs) (losses_past l j rs))) p) (sym (passing r h.here h.within)) (inl h.inside)
  past-to (r ∷ rs) (inr h) =
      by_bool (passes r)
      (λ e. subst (λ (b : Bool). InSome (pieces_lost (cond b (r ∷ losses_past l j rs) (losses_past l j rs))) p) (sym e) (inr (past-to rs h)))
      (λ e. subst (λ (b : Bool). InSome (pieces_lost (cond b (r ∷ losses_past l j rs) (losses_past l j rs))) p) (sym e) (past-to rs h))

pub past-over : (n l j : ℕ) (losses : List PlainLoss) → AllOf (λ r. AllWide n r.piece) losses → AllOver n (pieces_lost (losses_past l j losses))
past-over n l j [] h = tt
past-over n l j (r ∷ rs) h =
    by_bool (passes l j [] r)
    (λ e. subst (λ (b : Bool). AllOver n (pieces_lost (cond b (r ∷ losses_past l j rs) (losses_past l j rs)))) (sym e) (h.0, past-over n l j rs h.1))
    (λ e. subst (λ (b : Bool). AllOver n (pieces_lost (cond b (r ∷ losses_past l j rs) (losses_past l j rs)))) (sym e) (past-over n l j rs h.1))

-- ---- outside a round
in_append : (ps qs : List PlainPiece) (p : PlainPoint) → InSome (ps ++ qs) p → InSome ps p ⊎ InSome qs p
in_append [] qs p h = inr h
in_append (x ∷ ps) qs p (inl h) = inl (inl h)
in_append (x ∷ ps) qs p (inr h) = elim (in_append ps qs p h) [ inl k ↦ inl (inr k) | inr k ↦ inr k ]

in_first : (ps qs : List PlainPiece) (p : PlainPoint) → InSome ps p → InSome (ps ++ qs) p
in_first [] qs p h = absurd h
in_first (x ∷ ps) qs p (inl h) = inl h
in_first (x ∷ ps) qs p (inr h) = inr (in_first ps qs p h)

in_second : (ps qs : List PlainPiece) (p : PlainPoint) → InSome qs p → InSome (ps ++ qs) p
in_second [] qs p h = h
in_second (x ∷ ps) qs p h = inr (in_second ps qs p h)

module _ (a : PlainPlant) (losses : List PlainLoss) (k : ℕ) (known : AreKnown a losses k) where
  -- a state that a record holds was removed in its round
  pub held_removed : (s : PlainState) (r : PlainLoss) → Contains losses r → IsState a s → r.loc ≡ s.loc → InPiece r.piece s.at → IsRemovedIn a r.round s
  held_removed s r c state here inside =
      let b = known.sound r c in
      let t = b.sound_between.is_true in
      let i : InLoss a r s = record { state = state; here = sym here; inside = inside } in
      record { round = b.round; number = b.number; kept = t.kept s i; gone = subst (λ (m : ℕ). ¬ InRound a m s) (sym b.number) (t.gone s i) }

  -- a state removed in a round up to k is held by a record of that round
  pub removed_held : (s : PlainState) (i : ℕ) → i ≤ k → IsRemovedIn a i s → (r : PlainLoss) × Contains losses r × (r.round ≡ i) × InLoss a r s
  removed_held s i within h =
      let g = known.known s i within h in
      (g.0, g.1, removed_once a g.0.round i s (held_removed s g.0 g.1 g.2.state (sym g.2.here) g.2.inside) h, g.2)

  module _ (proper : IsProper a) (j : ℕ) (within : j ≤ k) where
    -- the pieces outside round j hold exactly the states that lie outside it
    pub past-exact : (l : ℕ) (p : PlainPoint) → length p ≡ length a.vars → InSome (past_at a losses j l).value p ↔ IsPast a j (state_at l p)
    past-exact l p fits = (
      λ h. elim (in_append (unsafe_at a l).value (pieces_lost (losses_past l j losses)) p h) [
        | inl u ↦ record { rank = 0; within = omega arith; ranked = (unsafe-exact a proper l p fits).0 u }
        | inr u ↦ from_record (some_contained (HoldsPast l j p) losses (past-from l j p losses u))
      ],
      λ h. to_some h.rank h.within h.ranked,
    )
      where
        from_record : ((r : PlainLoss) × Contains losses r × HoldsPast l j p r) → IsPast a j (state_at l p)
        from_record t =
            let r = t.0 in
            let h = t.2 in
            let b = known.sound r t.1 in
            let state : IsState a (state_at l p) = subst (λ (m : ℕ). IsState a (state_at m p)) h.here (b.sound_between.inside p fits h.inside) in
            let removed : IsRemovedIn a r.round (state_at l p) = held_removed (state_at l p) r t.1 state h.here h.inside in
            let less = h.within in
            let same = b.number in
            record { rank = suc b.round; within = omega arith; ranked = subst (λ (m : ℕ). IsRemovedIn a m (state_at l p)) b.number removed }

        to_some : (i : ℕ) → i ≤ j → HasRank a i (state_at l p) → InSome (past_at a losses j l).value p
        to_some zero less h = in_first (unsafe_at a l).value (pieces_lost (losses_past l j losses)) p ((unsafe-exact a proper l p fits).1 h)
        to_some (suc i) less h =
            let g = removed_held (state_at l p) (suc i) (omega arith) h in
            in_second (unsafe_at a l).value (pieces_lost (losses_past l j losses)) p
            (past-to l j p losses (contained_some (HoldsPast l j p) losses g.0 g.1 (record { here = sym g.3.here; within = (let e = g.2 in omega arith); inside = g.3.inside })))
