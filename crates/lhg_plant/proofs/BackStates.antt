-- What back gives are exactly the states that each switch keeps in a region.
use Rattle.std.proofs.Common.{◌≡◌, ◌↔◌, ◌⊎◌, inl, inr, ℕ, zero, suc, ◌+◌, List, [], ◌∷◌, length, map, get_or, slice_get, IsSomeAnd, Option, Some, None, refl, sym, ap, ◌∙◌, subst, arith}
use Rattle.std.specs.Prelude.{IfSome}
use Rattle.lhg_math.specs.Tests.{AllOf}
use Rattle.lhg_num.specs.FracArithmetic.{frac_arithmetic, frac_is_lawful}
use Rattle.lhg_num.specs.Marked.{Marked, each}
use Rattle.lhg_num.specs.MarkedLaws.{each-value}
use Rattle.lhg_row.specs.Row.{PlainPoint}
use Rattle.lhg_row.specs.Piece.{PlainPiece, InPiece, InSome}
use Rattle.lhg_row.specs.PieceFacts.{AllOver, AllPolys}
use Rattle.lhg_row.specs.MinusLaws.{minus-exact}
use Rattle.lhg_row.specs.CoveredLaws.{minus-polys, polys-over}
use Rattle.lhg_row.specs.Lists.{minus}
use Rattle.lhg_plant.specs.declared.plants.Side.{Side}
use Rattle.lhg_plant.specs.declared.plants.Side.TheVariants.{Ctl, Env, Pick}
use Rattle.lhg_plant.specs.Plant.{PlainSwitch, PlainPlant}
use Rattle.lhg_plant.specs.Proper.{IsProper}
use Rattle.lhg_plant.specs.State.{PlainState, IsState}
use Rattle.lhg_plant.specs.Legal.{LegalSwitch, HasSide}
use Rattle.lhg_plant.specs.OutBack.{StaysBy, BackBy}
use Rattle.lhg_plant.specs.Region.{PlainRegion, PlainGuards, InRegion, InGuard}
use Rattle.lhg_plant.specs.Invariants.{pieces_at, invariant_at, invariants}
use Rattle.lhg_plant.specs.Pre.{pre_list, pre_by}
use Rattle.lhg_plant.specs.BackCalculus.{kept_by, kept_side, back_by, back}
use Rattle.lhg_plant.specs.Inside.{AllInside, IsRegionOver, IsRegionInside}
use Rattle.lhg_plant.specs.SwitchFacts.{state_at, HasResultIn, IsOutside, AreBacks}
use Rattle.lhg_plant.specs.Sound.{IsInside}
use Rattle.lhg_plant.proofs.Decided.{region_decided}
use Rattle.lhg_plant.proofs.Options.{some_there, there_some}
use Rattle.lhg_plant.proofs.ListSteps.{difference-in}
use Rattle.lhg_plant.proofs.InsideStates.{inside_from}
use Rattle.lhg_plant.proofs.PrePoints.{pre_list-polys}
use Rattle.lhg_plant.proofs.PreStates.{legal_leads, pre_list-states, switch-proper}
use Rattle.lhg_plant.proofs.InvariantPoints.{invariants-at}
use Rattle.lhg_plant.proofs.AwayStates.{invs-points, invs-polys}

-- the list of a switch that is there
pub each-at : {A B : Type 0} (f : A → Marked (List B)) (xs : List A) (e : ℕ) (x : A) → slice_get xs e ≡ Some x → get_or (each f xs).value e [] ≡ (f x).value
each-at f xs e x is = ap (λ ys. get_or ys e []) (each-value f xs) ∙ at f xs e x is
  where
    at : {A B : Type 0} (f : A → Marked (List B)) (xs : List A) (e : ℕ) (x : A) → slice_get xs e ≡ Some x → get_or (map (λ y. (f y).value) xs) e [] ≡ (f x).value
    at f [] e x is = absurd (none_some is)
      where
        none_some : {A : Type 0} {x : A} → None ≡ Some x → ⊥
        none_some e = cc
    at f (y ∷ xs) zero x is = some_there (Some y) x (λ z. (f y).value ≡ (f z).value) is refl
    at f (y ∷ xs) (suc e) x is = at f xs e x is

module _ (a : PlainPlant) (proper : IsProper a) (region away : PlainRegion) (region_in : IsRegionInside a region) (away_over : IsRegionOver a away) (others : IsOutside a region away) where
  abbrev n : ℕ
  n = length a.vars

  over : IsRegionOver a region
  over = region_in.over

  abbrev S : PlainState → Type 0
  S = InRegion a region

  abbrev invs : PlainRegion
  invs = (invariants a).value

  away_inside : (l : ℕ) → AllInside a l (pieces_at away l)
  away_inside l = inside_from a l (pieces_at away l) (λ x fits h. ((others l x fits).0 h).0)

  module _ (e : ℕ) (w : PlainSwitch) (is : slice_get a.switches e ≡ Some w) where
    -- ---- pre, with the invariants of all locations
    by-states : (target : List PlainPiece) → AllOver n target → AllInside a w.to target → (x : PlainPoint) → length x ≡ n → InSome (pre_by n invs w target).value x ↔ HasResultIn a e target (state_at w.from x)
    by-states target o i x fits =
        subst (λ ps. InSome (pre_list n ps w.jump target).value x ↔ HasResultIn a e target (state_at w.from x)) (sym (invariants-at a w.from)) (pre_list-states a e w is proper target o i x fits)

    by-polys : (target : List PlainPiece) → AllOver n target → AllPolys frac_arithmetic n (pre_by n invs w target).value
    by-polys target o = pre_list-polys n w.jump (pieces_at invs w.from) (switch-proper a e w is proper).jump.wide (polys-over frac_arithmetic n (pieces_at invs w.from) (invs-polys a proper region over w.from)) target o

    abbrev all : List PlainPiece
    all = (pre_by n invs w (pieces_at invs w.to)).value

    abbrev lost : List PlainPiece
    lost = (pre_by n invs w (pieces_at away w.to)).value

    to-over : AllOver n (pieces_at invs w.to)
    to-over = polys-over frac_arithmetic n (pieces_at invs w.to) (invs-polys a proper region over w.to)

    to-inside : AllInside a w.to (pieces_at invs w.to)
    to-inside = inside_from a w.to (pieces_at invs w.to) (λ x fits h. (invs-points a proper region over w.to x fits).0 h)

    -- ---- one switch
    kept-polys : AllPolys frac_arithmetic n (kept_by n invs away w).value
    kept-polys = minus-polys frac_arithmetic n all lost frac_is_lawful (by-polys (pieces_at invs w.to) to-over) (polys-over frac_arithmetic n lost (by-polys (pieces_at away w.to) (away_over w.to)))

    module _ (x : PlainPoint) (fits : length x ≡ n) where
      abbrev s : PlainState
      s = state_at w.from x

      -- a state with some result
      all-states : InSome all x ↔ ((z : PlainState) × LegalSwitch a e s z)
      all-states =
          let same = by-states (pieces_at invs w.to) to-over to-inside x fits in (
            λ h. let r = same.0 h in (r.result, r.legal),
            λ r.
                let c = legal_leads a e w is s r.0 r.1 in
                let there : IsState a (state_at w.to r.0.at) = subst (λ k. IsState a (state_at k r.0.at)) (sym c.enters) r.1.result in
                same.1 (record { result = r.0; legal = r.1; inside = (invs-points a proper region over w.to r.0.at there.fits).1 there }),
          )

      -- a state with a result outside the region
      lost-states : InSome lost x ↔ ((z : PlainState) × LegalSwitch a e s z × ¬ S z)
      lost-states =
          let same = by-states (pieces_at away w.to) (away_over w.to) (away_inside w.to) x fits in (
            λ h.
                let r = same.0 h in
                let c = legal_leads a e w is s r.result r.legal in
                (r.result, r.legal, subst (λ k. ¬ S (state_at k r.result.at)) c.enters ((others w.to r.result.at r.legal.result.fits).0 r.inside).1),
            λ r.
                let c = legal_leads a e w is s r.0 r.1 in
                let there : IsState a (state_at w.to r.0.at) = subst (λ k. IsState a (state_at k r.0.at)) (sym c.enters) r.1.result in
                let gone : ¬ S (state_at w.to r.0.at) = subst (λ k. ¬ S (state_at k r.0.at)) (sym c.enters) r.2 in
                same.1 (record { result = r.0; legal = r.1; inside = (others w.to r.0.at there.fits).1 (there, gone) }),
          )

      -- exactly the states with a result, all of whose results are in the region
      kept-states : InSome (kept_by n invs away w).value x ↔ StaysBy Ctl a S e s
      kept-states =
          let d = difference-in n all lost (kept_by n invs away w).value x fits
          (minus-exact frac_arithmetic n all lost frac_is_lawful (polys-over frac_arithmetic n all (by-polys (pieces_at invs w.to) to-over)) (polys-over frac_arithmetic n lost (by-polys (pieces_at away w.to) (away_over w.to)))) in (
            λ h. let k = d.0 h in (all-states.0 k.0, λ z g. elim (region_decided a region z) [ inl i ↦ i | inr f ↦ absurd (k.1 (lost-states.1 (z, g, f))) ]),
            λ h. d.1 (all-states.1 h.0, λ k. let r = lost-states.0 k in r.2 (h.1 r.0 r.1)),
          )

      -- exactly the states with a result in the region
      picked-states : InSome (pre_by n invs w (pieces_at region w.to)).value x ↔ StaysBy Pick a S e s
      picked-states =
          let same = by-states (pieces_at region w.to) (over w.to) (region_in.inside w.to) x fits in (
            λ h.
                let r = same.0 h in
                let c = legal_leads a e w is s r.result r.legal in
                (r.result, r.legal, record { state = r.legal.result; some = subst (λ k. InSome (pieces_at region k) r.result.at) c.enters r.inside }),
            λ r.
                let c = legal_leads a e w is s r.0 r.1 in
                same.1 (record { result = r.0; legal = r.1; inside = subst (λ k. InSome (pieces_at region k) r.0.at) (sym c.enters) r.2.some }),
          )

    -- ---- by its side
    side-polys : (d : Side) → AllPolys frac_arithmetic n (kept_side n invs region away w d).value
    side-polys Ctl = kept-polys
    side-polys Env = tt
    side-polys Pick = by-polys (pieces_at region w.to) (over w.to)

    side-states : (d : Side) (x : PlainPoint) → length x ≡ n → InSome (kept_side n invs region away w d).value x ↔ StaysBy d a S e (state_at w.from x)
    side-states Ctl x fits = kept-states x fits
    side-states Env x fits = (λ h. h, λ h. h)
    side-states Pick x fits = picked-states x fits

    pub by_switch-polys : AllPolys frac_arithmetic n (back_by n invs region away w).value
    unfolding back_by
    by_switch-polys = side-polys w.side

    pub by_switch-states : (x : PlainPoint) → length x ≡ n → InSome (back_by n invs region away w).value x ↔ StaysBy w.side a S e (state_at w.from x)
    unfolding back_by
    by_switch-states = side-states w.side

    -- a state that is kept is a state
    stays_state : (d : Side) (x : PlainPoint) → StaysBy d a S e (state_at w.from x) → IsState a (state_at w.from x)
    stays_state Ctl x h = h.0.1.start
    stays_state Env x h = absurd h
    stays_state Pick x h = h.1.start

    pub by_switch-inside : AllInside a w.from (back_by n invs region away w).value
    by_switch-inside = inside_from a w.from (back_by n invs region away w).value (λ x fits h. stays_state w.side x ((by_switch-states x fits).0 h))

    pub by_switch-none : w.side ≡ Env → (back_by n invs region away w).value ≡ []
    unfolding back_by
    by_switch-none i = ap (λ d. (kept_side n invs region away w d).value) i

    pub back-list : get_or (back a region away).value e [] ≡ (back_by n invs region away w).value
    unfolding back
    back-list = each-at (back_by n invs region away) a.switches e w is

    -- a guard of these lists
    pub guard-states : (s : PlainState) → InGuard a (back a region away).value e s ↔ BackBy a S e s
    guard-states s = (
      λ g.
          let leaves = some_there (slice_get a.switches e) w (λ v. v.from ≡ s.loc) is g.leaves in
          let here : InSome (back_by n invs region away w).value s.at = subst (λ ps. InSome ps s.at) back-list g.some in
          there_some (slice_get a.switches e) w (λ v. StaysBy v.side a S e s) is (subst (λ k. StaysBy w.side a S e (state_at k s.at)) leaves ((by_switch-states s.at g.state.fits).0 here)),
      λ h.
          let stays = some_there (slice_get a.switches e) w (λ v. StaysBy v.side a S e s) is h in
          let leaves = from_stays w.side s stays in
          let start : IsState a s = subst (λ k. IsState a (state_at k s.at)) leaves (stays_state w.side s.at (subst (λ k. StaysBy w.side a S e (state_at k s.at)) (sym leaves) stays)) in
          record {
            state = start;
            leaves = there_some (slice_get a.switches e) w (λ v. v.from ≡ s.loc) is leaves;
            some = subst (λ ps. InSome ps s.at) (sym back-list) ((by_switch-states s.at start.fits).1 (subst (λ k. StaysBy w.side a S e (state_at k s.at)) (sym leaves) stays));
          },
    )
      where
        from_stays : (d : Side) (s : PlainState) → StaysBy d a S e s → w.from ≡ s.loc
        from_stays Ctl s h = (legal_leads a e w is s h.0.0 h.0.1).leaves
        from_stays Env s h = absurd h
        from_stays Pick s h = (legal_leads a e w is s h.0 h.1).leaves

  -- ---- all switches
  none_there : {A : Type 0} (P : A → Type 0) (o : Option A) → o ≡ None → ¬ IsSomeAnd o P
  none_there P o e h = subst (λ o. IsSomeAnd o P) e h

  exact : (e : ℕ) (s : PlainState) (o : Option PlainSwitch) → slice_get a.switches e ≡ o → InGuard a (back a region away).value e s ↔ BackBy a S e s
  exact e s None is = (λ g. absurd (none_there (λ w. w.from ≡ s.loc) (slice_get a.switches e) is g.leaves), λ h. absurd (none_there (λ w. StaysBy w.side a S e s) (slice_get a.switches e) is h))
  exact e s (Some w) is = guard-states e w is s

  past-list : (e : ℕ) → slice_get a.switches e ≡ None → get_or (back a region away).value e [] ≡ []
  unfolding back
  past-list e is = ap (λ ys. get_or ys e []) (each-value (back_by n invs region away) a.switches) ∙ at a.switches e is
    where
      at : (ws : List PlainSwitch) (e : ℕ) → slice_get ws e ≡ None → get_or (map (λ w. (back_by n invs region away w).value) ws) e [] ≡ []
      at [] e is = refl
      at (w ∷ ws) zero is = absurd (some_none is)
        where
          some_none : {A : Type 0} {x : A} → Some x ≡ None → ⊥
          some_none e = cc
      at (w ∷ ws) (suc e) is = at ws e is

  polys : (e : ℕ) (o : Option PlainSwitch) → slice_get a.switches e ≡ o → AllPolys frac_arithmetic n (get_or (back a region away).value e [])
  polys e None is = subst (AllPolys frac_arithmetic n) (sym (past-list e is)) tt
  polys e (Some w) is = subst (AllPolys frac_arithmetic n) (sym (back-list e w is)) (by_switch-polys e w is)

  inside_each : (e : ℕ) (o : Option PlainSwitch) → slice_get a.switches e ≡ o → IfSome o (λ w. AllInside a w.from (get_or (back a region away).value e []))
  inside_each e None is = tt
  inside_each e (Some w) is = subst (AllInside a w.from) (sym (back-list e w is)) (by_switch-inside e w is)

  uncontrollable : (e : ℕ) (o : Option PlainSwitch) → slice_get a.switches e ≡ o → IsSomeAnd o (λ w. w.side ≡ Env) → get_or (back a region away).value e [] ≡ []
  uncontrollable e None is h = absurd h
  uncontrollable e (Some w) is h = back-list e w is ∙ by_switch-none e w is h

  -- back is exact
  pub back-states : AreBacks a region (back a region away).value
  back-states = record {
    polys = λ e. polys e (slice_get a.switches e) refl;
    inside = λ e. inside_each e (slice_get a.switches e) refl;
    exact = λ e s. exact e s (slice_get a.switches e) refl;
    uncontrollable = λ e h. uncontrollable e (slice_get a.switches e) refl h;
  }
