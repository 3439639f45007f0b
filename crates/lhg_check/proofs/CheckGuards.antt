-- The pieces of the second part are the states of guards that break it.
use Rattle.std.proofs.Common.{◌≡◌, ◌↔◌, ◌⊎◌, ℕ, List, [], ◌++◌, length, get_or, slice_get, IsSomeAnd, Option, Some, None, refl, sym, ◌∙◌, inl, inr, subst}
use Rattle.std.specs.Prelude.{IfSome}
use Rattle.lhg_num.specs.FracArithmetic.{frac_arithmetic, frac_is_lawful}
use Rattle.lhg_row.specs.Row.{PlainPoint}
use Rattle.lhg_row.specs.Piece.{PlainPiece, InSome}
use Rattle.lhg_row.specs.PieceLemmas.{some_decided}
use Rattle.lhg_row.specs.PieceFacts.{IsPoly, AllOver, AllPolys}
use Rattle.lhg_row.specs.Members.{all-append}
use Rattle.lhg_row.specs.CoveredLaws.{polys-over, minus-polys}
use Rattle.lhg_row.specs.Lists.{minus, meet_lists}
use Rattle.lhg_row.specs.MeetListsLaws.{meet_lists-exact, meet_lists-polys}
use Rattle.lhg_row.specs.SomeLists.{in_left, in_right, in_either}
use Rattle.lhg_plant.specs.declared.plants.Side.{Side}
use Rattle.lhg_plant.specs.declared.plants.Side.TheVariants.{Ctl, Env, Pick}
use Rattle.lhg_plant.specs.Plant.{PlainSwitch, PlainPlant}
use Rattle.lhg_plant.specs.Proper.{IsProper}
use Rattle.lhg_plant.specs.State.{PlainState, IsState}
use Rattle.lhg_plant.specs.Legal.{LegalSwitch}
use Rattle.lhg_plant.specs.OutBack.{StaysBy, BackBy}
use Rattle.lhg_plant.specs.Region.{PlainRegion, InRegion, InGuard}
use Rattle.lhg_plant.specs.Controller.{PlainController}
use Rattle.lhg_plant.specs.Invariants.{pieces_at, invariant_at, invariants}
use Rattle.lhg_plant.specs.Pre.{pre_of, pre}
use Rattle.lhg_plant.specs.OutCalculus.{out}
use Rattle.lhg_plant.specs.Inside.{AllInside, IsRegionOver}
use Rattle.lhg_plant.specs.SwitchFacts.{state_at, HasResultIn, IsOutOf}
use Rattle.lhg_plant.proofs.Options.{some_there, there_some}
use Rattle.lhg_plant.proofs.Decided.{region_decided}
use Rattle.lhg_plant.proofs.InsideStates.{inside_from, some_inside}
use Rattle.lhg_plant.proofs.ListSteps.{intersection-in}
use Rattle.lhg_plant.proofs.PrePoints.{pre_list-polys}
use Rattle.lhg_plant.proofs.PreStates.{legal_leads, switch-proper, pre-states}
use Rattle.lhg_plant.proofs.InvariantPoints.{invariant-polys}
use Rattle.lhg_plant.proofs.AwayStates.{invs-points, invs-polys}
use Rattle.lhg_plant.proofs.OutStates.{out-states}
use Rattle.lhg_loss.proofs.PlaceRound.{polys_at}
use Rattle.lhg_loss.proofs.PlaceSplit.{less_is}
use Rattle.lhg_check.specs.Check.{broken_ctl, broken_pick, broken_side, broken_at, broken_guards}
use Rattle.lhg_check.specs.CheckFacts.{IsCheckable, GuardHolds, BreaksGuard}
use Rattle.lhg_check.proofs.CheckLists.{IsListOf, at_or, each_numbered}

-- what pre gives are pieces
pre_polys : (a : PlainPlant) → IsProper a → (e : ℕ) (target : List PlainPiece) → AllOver (length a.vars) target → AllPolys frac_arithmetic (length a.vars) (pre a e target).value
unfolding pre
pre_polys a proper e target over = go (slice_get a.switches e) refl
  where
    go : (o : Option PlainSwitch) → slice_get a.switches e ≡ o → AllPolys frac_arithmetic (length a.vars) (pre_of a target o).value
    go None is = tt
    go (Some w) is =
        let n = length a.vars in
        let invs = (invariant_at a w.from).value in
        pre_list-polys n w.jump invs (switch-proper a e w is proper).jump.wide (polys-over frac_arithmetic n invs (invariant-polys a proper w.from)) target over

if_there : {A : Type 0} (P : A → Type 0) (o : Option A) (w : A) → o ≡ Some w → IfSome o P → P w
if_there {A = A} P o w e h = subst (λ (q : Option A). IfSome q P) e h

-- the region of a checkable controller is over the plant's variables
pub region_over : (a : PlainPlant) (c : PlainController) → IsCheckable a c → IsRegionOver a c.region
region_over a c given l = polys-over frac_arithmetic (length a.vars) (pieces_at c.region l) (polys_at (length a.vars) c.region l given.region_is.polys)

module _ (a : PlainPlant) (proper : IsProper a) (c : PlainController) (given : IsCheckable a c) where
  abbrev n : ℕ
  n = length a.vars

  abbrev S : PlainState → Type 0
  S = InRegion a c.region

  abbrev invs : PlainRegion
  invs = (invariants a).value

  abbrev away : PlainRegion
  away = (out a c.region).value.away

  over : IsRegionOver a c.region
  over = region_over a c given

  outs-are : IsOutOf a S (out a c.region).value
  outs-are = out-states a proper c.region over

  -- ---- one switch
  module _ (e : ℕ) (w : PlainSwitch) (is : slice_get a.switches e ≡ Some w) where
    abbrev guard : List PlainPiece
    guard = get_or c.guards e []

    abbrev here : List PlainPiece
    here = pieces_at c.region w.from

    abbrev all : List PlainPiece
    all = (pre a e (pieces_at invs w.to)).value

    abbrev lost : List PlainPiece
    lost = (pre a e (pieces_at away w.to)).value

    abbrev kept : List PlainPiece
    kept = (pre a e (pieces_at c.region w.to)).value

    guard_over : AllOver n guard
    guard_over = polys-over frac_arithmetic n guard (given.guard_polys e)

    to_over : AllOver n (pieces_at invs w.to)
    to_over = polys-over frac_arithmetic n (pieces_at invs w.to) (invs-polys a proper c.region over w.to)

    away_over : AllOver n (pieces_at away w.to)
    away_over = polys-over frac_arithmetic n (pieces_at away w.to) (outs-are.away w.to).polys

    pre_over : (target : List PlainPiece) → AllOver n target → AllOver n (pre a e target).value
    pre_over target o = polys-over frac_arithmetic n (pre a e target).value (pre_polys a proper e target o)

    pre_is : (target : List PlainPiece) → AllOver n target → AllInside a w.to target → (p : PlainPoint) → length p ≡ n → InSome (pre a e target).value p ↔ HasResultIn a e target (state_at w.from p)
    pre_is target o i p l =
        some_there (slice_get a.switches e) w (λ v. (p : PlainPoint) → length p ≡ n → InSome (pre a e target).value p ↔ HasResultIn a e target (state_at v.from p)) is
        (pre-states a proper e target o (there_some (slice_get a.switches e) w (λ v. AllInside a v.to target) is i)) p l

    module _ (p : PlainPoint) (l : length p ≡ n) where
      abbrev s : PlainState
      s = state_at w.from p

      -- a state with some result
      has_result : InSome all p ↔ ((z : PlainState) × LegalSwitch a e s z)
      has_result =
          let same = pre_is (pieces_at invs w.to) to_over (inside_from a w.to (pieces_at invs w.to) (λ x f h. (invs-points a proper c.region over w.to x f).0 h)) p l in (
            λ h. let r = same.0 h in (r.result, r.legal),
            λ r.
                let k = legal_leads a e w is s r.0 r.1 in
                let there : IsState a (state_at w.to r.0.at) = subst (λ k. IsState a (state_at k r.0.at)) (sym k.enters) r.1.result in
                same.1 (record { result = r.0; legal = r.1; inside = (invs-points a proper c.region over w.to r.0.at there.fits).1 there }),
          )

      -- a state with a result outside the region
      has_lost : InSome lost p ↔ ((z : PlainState) × LegalSwitch a e s z × ¬ S z)
      has_lost =
          let same = pre_is (pieces_at away w.to) away_over (inside_from a w.to (pieces_at away w.to) (λ x f h. (((outs-are.away w.to).exact x f).0 h).0)) p l in (
            λ h.
                let r = same.0 h in
                let k = legal_leads a e w is s r.result r.legal in
                (r.result, r.legal, subst (λ k. ¬ S (state_at k r.result.at)) k.enters (((outs-are.away w.to).exact r.result.at r.legal.result.fits).0 r.inside).1),
            λ r.
                let k = legal_leads a e w is s r.0 r.1 in
                let there : IsState a (state_at w.to r.0.at) = subst (λ k. IsState a (state_at k r.0.at)) (sym k.enters) r.1.result in
                same.1 (record { result = r.0; legal = r.1; inside = ((outs-are.away w.to).exact r.0.at there.fits).1 (there, subst (λ k. ¬ S (state_at k r.0.at)) (sym k.enters) r.2) }),
          )

      -- a state with a result in the region
      has_kept : InSome kept p ↔ ((z : PlainState) × LegalSwitch a e s z × S z)
      has_kept =
          let same = pre_is (pieces_at c.region w.to) (over w.to) (given.region_is.inside w.to) p l in (
            λ h.
                let r = same.0 h in
                let k = legal_leads a e w is s r.result r.legal in
                (r.result, r.legal, record { state = r.legal.result; some = subst (λ k. InSome (pieces_at c.region k) r.result.at) k.enters r.inside }),
            λ r.
                let k = legal_leads a e w is s r.0 r.1 in
                same.1 (record { result = r.0; legal = r.1; inside = subst (λ k. InSome (pieces_at c.region k) r.0.at) (sym k.enters) r.2.some }),
          )

      -- a point of the guard is a state of it
      in_guard : InSome guard p → InGuard a c.guards e s
      in_guard h = record {
        state = some_inside a w.from guard p l (if_there (λ v. AllInside a v.from guard) (slice_get a.switches e) w is (given.guards_inside e)) h;
        leaves = there_some (slice_get a.switches e) w (λ v. v.from ≡ w.from) is refl;
        some = h;
      }

      -- the states of the region that the switch keeps in it
      abbrev Keeps : Type 0
      Keeps = S s × BackBy a S e s

      stays_back : (d : Side) → w.side ≡ d → StaysBy d a S e s → BackBy a S e s
      stays_back d side h = there_some (slice_get a.switches e) w (λ v. StaysBy v.side a S e s) is (subst (λ d. StaysBy d a S e s) (sym side) h)

      back_stays : (d : Side) → w.side ≡ d → BackBy a S e s → StaysBy d a S e s
      back_stays d side h = subst (λ d. StaysBy d a S e s) side (some_there (slice_get a.switches e) w (λ v. StaysBy v.side a S e s) is h)

      in_here : IsState a s → InSome here p → S s
      in_here i h = record { state = i; some = h }

      -- ---- the lists
      abbrev outside : List PlainPiece
      outside = (minus frac_arithmetic n guard here).value

      outside_is : InSome outside p ↔ (InSome guard p × ¬ InSome here p)
      outside_is = less_is n guard here guard_over (over w.from) p l

      -- where the plant picks the result
      module _ (side : w.side ≡ Ctl) where
        abbrev stuck : List PlainPiece
        stuck = (minus frac_arithmetic n guard all).value

        abbrev met : List PlainPiece
        met = (meet_lists frac_arithmetic n guard lost).value

        stuck_is : InSome stuck p ↔ (InSome guard p × ¬ InSome all p)
        stuck_is = less_is n guard all guard_over (pre_over (pieces_at invs w.to) to_over) p l

        met_is : InSome met p ↔ (InSome guard p × InSome lost p)
        met_is = intersection-in n guard lost met p l (meet_lists-exact frac_arithmetic n guard lost frac_is_lawful guard_over (pre_over (pieces_at away w.to) away_over))

        ctl_keeps : IsState a s → InSome here p → InSome all p → ¬ InSome lost p → Keeps
        ctl_keeps i h r f =
            (in_here i h, stays_back Ctl side (has_result.0 r, λ z g. elim (region_decided a c.region z) [ inl k ↦ k | inr k ↦ absurd (f (has_lost.1 (z, g, k))) ]))

        ctl_breaks : InSome (outside ++ (stuck ++ met)) p → BreaksGuard a c e s
        ctl_breaks h =
            elim (in_either outside (stuck ++ met) p h) [
              | inl k ↦ (let d = outside_is.0 k in (in_guard d.0, λ b. d.1 b.0.some))
              | inr m ↦ elim (in_either stuck met p m) [
                | inl k ↦ (let d = stuck_is.0 k in (in_guard d.0, λ b. d.1 (has_result.1 (back_stays Ctl side b.1).0)))
                | inr k ↦ (let d = met_is.0 k in (in_guard d.0, λ b. let r = has_lost.0 d.1 in r.2 ((back_stays Ctl side b.1).1 r.0 r.1)))
              ]
            ]

        -- a state of the guard is kept, or in one of the three lists
        ctl_or : InGuard a c.guards e s → Keeps ⊎ InSome (outside ++ (stuck ++ met)) p
        ctl_or g =
            elim (some_decided here p) [
              | inr h ↦ inr (in_left outside (stuck ++ met) p (outside_is.1 (g.some, h)))
              | inl h ↦ elim (some_decided all p) [
                | inr r ↦ inr (in_right outside (stuck ++ met) p (in_left stuck met p (stuck_is.1 (g.some, r))))
                | inl r ↦ elim (some_decided lost p) [
                  | inl f ↦ inr (in_right outside (stuck ++ met) p (in_right stuck met p (met_is.1 (g.some, f))))
                  | inr f ↦ inl (ctl_keeps g.state h r f)
                ]
              ]
            ]

      -- where the controller picks it
      module _ (side : w.side ≡ Pick) where
        abbrev unled : List PlainPiece
        unled = (minus frac_arithmetic n guard kept).value

        unled_is : InSome unled p ↔ (InSome guard p × ¬ InSome kept p)
        unled_is = less_is n guard kept guard_over (pre_over (pieces_at c.region w.to) (over w.to)) p l

        pick_breaks : InSome (outside ++ unled) p → BreaksGuard a c e s
        pick_breaks h =
            elim (in_either outside unled p h) [
              | inl k ↦ (let d = outside_is.0 k in (in_guard d.0, λ b. d.1 b.0.some))
              | inr k ↦ (let d = unled_is.0 k in (in_guard d.0, λ b. d.1 (has_kept.1 (back_stays Pick side b.1))))
            ]

        -- a state of the guard is kept, or in one of the two lists
        pick_or : InGuard a c.guards e s → Keeps ⊎ InSome (outside ++ unled) p
        pick_or g =
            elim (some_decided here p) [
              | inr h ↦ inr (in_left outside unled p (outside_is.1 (g.some, h)))
              | inl h ↦ elim (some_decided kept p) [
                | inr r ↦ inr (in_right outside unled p (unled_is.1 (g.some, r)))
                | inl r ↦ inl (in_here g.state h, stays_back Pick side (has_kept.0 r))
              ]
            ]

    -- ---- by its side
    outside_polys : AllPolys frac_arithmetic n (minus frac_arithmetic n guard here).value
    outside_polys = minus-polys frac_arithmetic n guard here frac_is_lawful (given.guard_polys e) (over w.from)

    ctl_polys : AllPolys frac_arithmetic n (broken_ctl a invs away c e w).value
    unfolding broken_ctl
    ctl_polys =
        all-append (IsPoly frac_arithmetic n) (minus frac_arithmetic n guard here).value _ outside_polys
        (all-append (IsPoly frac_arithmetic n) (minus frac_arithmetic n guard all).value _ (minus-polys frac_arithmetic n guard all frac_is_lawful (given.guard_polys e) (pre_over (pieces_at invs w.to) to_over))
        (meet_lists-polys frac_arithmetic n guard lost frac_is_lawful guard_over (pre_over (pieces_at away w.to) away_over)))

    pick_polys : AllPolys frac_arithmetic n (broken_pick a c e w).value
    unfolding broken_pick
    pick_polys =
        all-append (IsPoly frac_arithmetic n) (minus frac_arithmetic n guard here).value _ outside_polys
        (minus-polys frac_arithmetic n guard kept frac_is_lawful (given.guard_polys e) (pre_over (pieces_at c.region w.to) (over w.to)))

    side_polys : (d : Side) → AllPolys frac_arithmetic n (broken_side a invs away c e w d).value
    side_polys Ctl = ctl_polys
    side_polys Env = tt
    side_polys Pick = pick_polys

    side_breaks : (d : Side) → w.side ≡ d → (p : PlainPoint) → length p ≡ n → InSome (broken_side a invs away c e w d).value p → BreaksGuard a c e (state_at w.from p)
    unfolding broken_ctl broken_pick
    side_breaks Ctl side p l h = ctl_breaks p l side h
    side_breaks Env side p l h = absurd h
    side_breaks Pick side p l h = pick_breaks p l side h

    side_or : (d : Side) → w.side ≡ d → (p : PlainPoint) → length p ≡ n → InGuard a c.guards e (state_at w.from p)
        → (S (state_at w.from p) × BackBy a S e (state_at w.from p)) ⊎ InSome (broken_side a invs away c e w d).value p
    unfolding broken_ctl broken_pick
    side_or Ctl side p l g = ctl_or p l side g
    side_or Env side p l g = absurd (subst (λ (g : List PlainPiece). InSome g p) (given.uncontrollable e (there_some (slice_get a.switches e) w (λ v. v.side ≡ Env) is side)) g.some)
    side_or Pick side p l g = pick_or p l side g

    side_list : IsListOf n (λ p. BreaksGuard a c e (state_at w.from p)) (broken_side a invs away c e w w.side).value
    side_list = record {
      polys = side_polys w.side;
      exact = λ p l. (λ h. side_breaks w.side refl p l h, λ h. elim (side_or w.side refl p l h.0) [ inl k ↦ absurd (h.1 k) | inr k ↦ k ]);
    }

    -- where there is no piece, each state of the guard is kept
    side_holds : (broken_side a invs away c e w w.side).value ≡ [] → (p : PlainPoint) → length p ≡ n → InGuard a c.guards e (state_at w.from p) → S (state_at w.from p) × BackBy a S e (state_at w.from p)
    side_holds none p l g = elim (side_or w.side refl p l g) [ inl k ↦ k | inr k ↦ absurd (subst (λ (w : List PlainPiece). InSome w p) none k) ]

  -- ---- all switches
  abbrev broken : List (List PlainPiece)
  broken = (broken_guards a c away).value

  abbrev BreaksOf : ℕ → Option PlainSwitch → PlainPoint → Type 0
  BreaksOf e o p = IsSomeAnd o (λ w. BreaksGuard a c e (state_at w.from p))

  broken_at_is : (e : ℕ) → get_or broken e [] ≡ at_or (broken_at a invs away c) e (slice_get a.switches e)
  unfolding broken_guards
  broken_at_is e = each_numbered (broken_at a invs away c) a.switches e

  of_list : (e : ℕ) (o : Option PlainSwitch) → slice_get a.switches e ≡ o → IsListOf n (BreaksOf e o) (at_or (broken_at a invs away c) e o)
  of_list e None is = record { polys = tt; exact = λ p l. (λ k. k, λ k. k) }
  of_list e (Some w) is = side_list e w is

  pub broken_list : (e : ℕ) → IsListOf n (BreaksOf e (slice_get a.switches e)) (get_or broken e [])
  broken_list e = subst (λ (ps : List PlainPiece). IsListOf n (BreaksOf e (slice_get a.switches e)) ps) (sym (broken_at_is e)) (of_list e (slice_get a.switches e) refl)

  holds_of : (e : ℕ) (o : Option PlainSwitch) → slice_get a.switches e ≡ o → at_or (broken_at a invs away c) e o ≡ [] → GuardHolds a c e
  holds_of e None is none s g = absurd (subst (λ (o : Option PlainSwitch). IsSomeAnd o (λ w. w.from ≡ s.loc)) is g.leaves)
  holds_of e (Some w) is none s g =
      let leaves : w.from ≡ s.loc = some_there (slice_get a.switches e) w (λ v. v.from ≡ s.loc) is g.leaves in
      subst (λ k. InGuard a c.guards e (state_at k s.at) → S (state_at k s.at) × BackBy a S e (state_at k s.at)) leaves (side_holds e w is none s.at g.state.fits) g

  -- a guard without a piece breaks nothing
  pub guard_holds : (e : ℕ) → get_or broken e [] ≡ [] → GuardHolds a c e
  guard_holds e none = holds_of e (slice_get a.switches e) refl (sym (broken_at_is e) ∙ none)
