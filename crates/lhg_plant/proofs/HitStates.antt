-- The hits are sound, and hold all states of a region from which the plant can leave it by a switch.
use Rattle.std.proofs.Common.{◌≡◌, ◌↔◌, ◌⊎◌, inl, inr, ℕ, ◌+◌, Bool, true, false, cond, List, [], ◌∷◌, ◌++◌, length, get_or, slice_get, nat_eq, IsSomeAnd, Option, Some, None, refl, sym, ap, ◌∙◌, subst, arith}
use Rattle.std.proofs.lemmas.Bool.{eq-eqb, eqb-true}
use Rattle.lhg_math.specs.Tests.{AllOf, by_bool}
use Rattle.lhg_num.specs.FracArithmetic.{frac_arithmetic}
use Rattle.lhg_num.specs.Marked.{walk}
use Rattle.lhg_row.specs.Row.{PlainPoint}
use Rattle.lhg_row.specs.Piece.{PlainPiece, InPiece, InSome}
use Rattle.lhg_row.specs.Width.{AllWide}
use Rattle.lhg_row.specs.Members.{SomeOf}
use Rattle.lhg_row.specs.SomeLists.{in_some_of}
use Rattle.lhg_row.specs.PieceFacts.{IsPoly, AllOver, AllPolys}
use Rattle.lhg_row.specs.CoveredLaws.{polys-over}
use Rattle.lhg_plant.specs.declared.plants.Side.{Side}
use Rattle.lhg_plant.specs.declared.plants.Side.TheVariants.{Ctl, Env, Pick}
use Rattle.lhg_plant.specs.Plant.{PlainSwitch, PlainPlant}
use Rattle.lhg_plant.specs.Proper.{IsProper}
use Rattle.lhg_plant.specs.State.{PlainState, IsState}
use Rattle.lhg_plant.specs.Legal.{LegalSwitch, HasSide}
use Rattle.lhg_plant.specs.OutBack.{LeavesBySwitch}
use Rattle.lhg_plant.specs.Region.{PlainRegion, InRegion}
use Rattle.lhg_plant.specs.Invariants.{pieces_at, invariants}
use Rattle.lhg_plant.specs.Pre.{pre_each}
use Rattle.lhg_plant.specs.OutCalculus.{away, PlainHit, hit_pieces, hit_piece, hit_region, hit_into, hit_side, hit_by, numbered, hits_at}
use Rattle.lhg_plant.specs.Inside.{IsRegionOver}
use Rattle.lhg_plant.specs.SwitchFacts.{state_at, IsAway, IsHit, AreHits}
use Rattle.lhg_plant.proofs.Options.{there_some, some_there}
use Rattle.lhg_plant.proofs.ListSteps.{all_weaker, all_both, each_in_some, numbered_there, numbered_some}
use Rattle.lhg_plant.proofs.PrePoints.{LeadsInto, pre_each-points, pre_each-polys}
use Rattle.lhg_plant.proofs.PreStates.{some_one, some_weaker, legal_leads, leads_result, switch-proper}
use Rattle.lhg_plant.proofs.AwayStates.{invs-points, invs-polys, region-over, away-states}
use Rattle.lhg_plant.proofs.HitSteps.{Adds, adds_none, adds_less, walk-adds, piece-adds}

module _ (a : PlainPlant) (proper : IsProper a) (region : PlainRegion) (over : IsRegionOver a region) (l : ℕ) where
  abbrev n : ℕ
  n = length a.vars

  abbrev S : PlainState → Type 0
  S = InRegion a region

  abbrev Good : PlainHit → Type 0
  Good = IsHit a S l

  abbrev invs : PlainRegion
  invs = (invariants a).value

  abbrev outside : PlainRegion
  outside = (away n invs region).value

  abbrev here : List PlainPiece
  here = pieces_at region l

  invs-over : AllOver n (pieces_at invs l)
  invs-over = polys-over frac_arithmetic n (pieces_at invs l) (invs-polys a proper region over l)

  module _ (e : ℕ) (w : PlainSwitch) (is : slice_get a.switches e ≡ Some w) (from : w.from ≡ l) (env : w.side ≡ Env) where
    -- some point of the invariant leads into a piece outside
    abbrev Leads : PlainPiece → PlainPoint → Type 0
    Leads into x = SomeOf (λ inv. LeadsInto n w.jump into inv x) (pieces_at invs l)

    -- ---- the source
    leads_state : (into : PlainPiece) (x : PlainPoint) → length x ≡ n → Leads into x → IsState a (state_at l x)
    leads_state into x fits h =
        (invs-points a proper region over l x fits).0
        ((in_some_of (pieces_at invs l) x).1 (some_weaker (λ inv. LeadsInto n w.jump into inv x) (λ inv. InPiece inv x) (pieces_at invs l) (λ inv c. c.start) h))

    -- ---- a piece outside
    record IsOutside (into : PlainPiece) : Type 0 where
      poly : IsPoly frac_arithmetic n into
      states : (y : PlainPoint) → length y ≡ n → InPiece into y → IsState a (state_at w.to y) × ¬ S (state_at w.to y)

    outside_pieces : AllOf IsOutside (pieces_at outside w.to)
    outside_pieces =
        let ps = pieces_at outside w.to in
        let at = away-states a proper region over w.to in
        all_weaker (λ p. IsPoly frac_arithmetic n p × ((x : PlainPoint) → InPiece p x → InSome ps x)) IsOutside ps
        (λ p h. record { poly = h.0; states = λ y fits i. (at.exact y fits).0 (h.1 y i) })
        (all_both (IsPoly frac_arithmetic n) (λ p. (x : PlainPoint) → InPiece p x → InSome ps x) ps at.polys (each_in_some ps))

    module _ (into : PlainPiece) (out : IsOutside into) where
      missed : (z : PlainState) → z.loc ≡ w.to → (length z.at ≡ n) → InPiece into z.at → ¬ S z
      missed z at fits i = subst (λ k. ¬ S (state_at k z.at)) (sym at) ((out.states z.at fits i).1)

      result : (x : PlainPoint) → length x ≡ n → Leads into x → (z : PlainState) × LegalSwitch a e (state_at l x) z × (z.loc ≡ w.to) × InPiece into z.at
      result x fits h =
          let start : IsState a (state_at w.from x) = subst (λ k. IsState a (state_at k x)) (sym from) (leads_state into x fits h) in
          let found = some_one (λ inv. LeadsInto n w.jump into inv x) ((z : PlainState) × LegalSwitch a e (state_at w.from x) z × (z.loc ≡ w.to) × InPiece into z.at) (pieces_at invs l)
          (λ inv c. leads_result a e w is proper into inv x start (λ y f i. (out.states y f i).0) c) h in
          (found.0, subst (λ k. LegalSwitch a e (state_at k x) found.0) from found.1, found.2, found.3)

      -- a piece of such states in the region is a hit
      hit : (piece : PlainPiece) → IsPoly frac_arithmetic n piece → ((x : PlainPoint) → length x ≡ n → InPiece piece x → Leads into x × InSome here x) → Good (record { switch = e; into = into; piece = piece })
      hit piece poly f = record {
        poly = poly;
        into_poly = out.poly;
        kept = λ x fits i. let c = f x fits i in record { state = leads_state into x fits c.0; some = c.1 };
        side = there_some (slice_get a.switches e) w (λ v. v.side ≡ Env) is env;
        target = w.to;
        enters = there_some (slice_get a.switches e) w (λ v. v.to ≡ w.to) is refl;
        inside = λ y fits i. (out.states y fits i).0;
        missed = λ z i. missed z i.here i.state.fits i.inside;
        result = λ x fits i.
            let r = result x fits (f x fits i).0 in
            (r.0, r.1, record { state = r.1.result; here = r.2; inside = r.3 });
      }

      -- ---- the walks
      abbrev Source : PlainPiece → Type 0
      Source q = IsPoly frac_arithmetic n q × ((x : PlainPoint) → length x ≡ n → InPiece q x → Leads into x)

      sources : AllOf Source (pre_each n w.jump into (pieces_at invs l)).value
      sources =
          let qs = (pre_each n w.jump into (pieces_at invs l)).value in
          let wj = (switch-proper a e w is proper).jump.wide in
          all_weaker (λ q. IsPoly frac_arithmetic n q × ((x : PlainPoint) → InPiece q x → InSome qs x)) Source qs
          (λ q h. (h.0, λ x fits i. (pre_each-points n w.jump into wj out.poly.wide (pieces_at invs l) x invs-over fits).0 (h.1 x i)))
          (all_both (IsPoly frac_arithmetic n) (λ q. (x : PlainPoint) → InPiece q x → InSome qs x) qs (pre_each-polys n w.jump into wj out.poly.wide (pieces_at invs l) invs-over) (each_in_some qs))

      abbrev Here : PlainPiece → Type 0
      Here s = AllWide n s × ((x : PlainPoint) → InPiece s x → InSome here x)

      heres : AllOf Here here
      heres = all_both (AllWide n) (λ s. (x : PlainPoint) → InPiece s x → InSome here x) here (region-over a proper region over l) (each_in_some here)

      region-adds : (hits : List PlainHit) (q : PlainPiece) → AllOf Good hits → Source q → Adds Good n (λ x. SomeOf (λ s. InPiece q x × InPiece s x) here) hits (hit_region n here e into hits q).value
      region-adds hits q g source =
          walk-adds Good n (hit_piece n e into q) (λ s x. InPiece q x × InPiece s x) Here
          (λ more s good place. piece-adds Good n (λ h k. k.poly.wide) e into q s more good source.0.wide place.0 (λ piece poly f. hit piece poly (λ x fits i. let c = f x fits i in (source.1 x fits c.0, place.1 x c.1))))
          hits here g heres

      into-adds : (hits : List PlainHit) → AllOf Good hits → Adds Good n (λ x. Leads into x × InSome here x) hits (hit_into n (pieces_at invs l) here e w.jump hits into).value
      into-adds hits g =
          let qs = (pre_each n w.jump into (pieces_at invs l)).value in
          let wj = (switch-proper a e w is proper).jump.wide in
          adds_less Good n (λ x. SomeOf (λ q. SomeOf (λ s. InPiece q x × InPiece s x) here) qs) (λ x. Leads into x × InSome here x) hits (hit_into n (pieces_at invs l) here e w.jump hits into).value
          (λ x fits c.
          let in_qs : InSome qs x = (pre_each-points n w.jump into wj out.poly.wide (pieces_at invs l) x invs-over fits).1 c.0 in
          some_weaker (λ q. InPiece q x) (λ q. SomeOf (λ s. InPiece q x × InPiece s x) here) qs
          (λ q i. some_weaker (λ s. InPiece s x) (λ s. InPiece q x × InPiece s x) here (λ s k. (i, k)) ((in_some_of here x).0 c.1)) ((in_some_of qs x).0 in_qs))
          (walk-adds Good n (hit_region n here e into) (λ q x. SomeOf (λ s. InPiece q x × InPiece s x) here) Source region-adds hits qs g sources)

    outside-adds : (hits : List PlainHit) → AllOf Good hits
        → Adds Good n (λ x. SomeOf (λ into. Leads into x × InSome here x) (pieces_at outside w.to)) hits (walk (hit_into n (pieces_at invs l) here e w.jump) hits (pieces_at outside w.to)).value
    outside-adds hits g =
        walk-adds Good n (hit_into n (pieces_at invs l) here e w.jump) (λ into x. Leads into x × InSome here x) IsOutside (λ more into good out. into-adds into out more good) hits (pieces_at outside w.to) g outside_pieces

  -- ---- one switch
  -- the points that a switch covers: where it is uncontrollable, leaves the location and leads out of the region
  record Covers (p : ℕ × PlainSwitch) (x : PlainPoint) : Type 0 where
    from : p.1.from ≡ l
    env : p.1.side ≡ Env
    leads : SomeOf (λ into. SomeOf (λ inv. LeadsInto n p.1.jump into inv x) (pieces_at invs l) × InSome here x) (pieces_at outside p.1.to)

  side-adds : (e : ℕ) (w : PlainSwitch) → slice_get a.switches e ≡ Some w → w.from ≡ l → (hits : List PlainHit) → AllOf Good hits → (d : Side) → w.side ≡ d
      → Adds Good n (Covers (e, w)) hits (hit_side n (pieces_at invs l) here (pieces_at outside w.to) e w.jump hits d).value
  side-adds e w is from hits g Ctl i = adds_none Good n (Covers (e, w)) hits g (λ x fits c. absurd (apart (sym i ∙ c.env)))
    where
      apart : Ctl ≡ Env → ⊥
      apart e = cc
  side-adds e w is from hits g Pick i = adds_none Good n (Covers (e, w)) hits g (λ x fits c. absurd (apart (sym i ∙ c.env)))
    where
      apart : Pick ≡ Env → ⊥
      apart e = cc
  side-adds e w is from hits g Env i =
      adds_less Good n (λ x. SomeOf (λ into. SomeOf (λ inv. LeadsInto n w.jump into inv x) (pieces_at invs l) × InSome here x) (pieces_at outside w.to)) (Covers (e, w)) hits
      (hit_side n (pieces_at invs l) here (pieces_at outside w.to) e w.jump hits Env).value (λ x fits c. c.leads) (outside-adds e w is from i hits g)

  by-adds : (hits : List PlainHit) (p : ℕ × PlainSwitch) → AllOf Good hits → slice_get a.switches p.0 ≡ Some p.1 → Adds Good n (Covers p) hits (hit_by n invs outside region l hits p).value
  by-adds hits (e, w) g is =
      by_bool (nat_eq w.from l)
      (λ t. rw t (side-adds e w is (eqb-true w.from l t) hits g w.side refl))
      (λ f. rw f (adds_none Good n (Covers (e, w)) hits g (λ x fits c. let t : nat_eq w.from l ≡ true = eq-eqb w.from l c.from in cc)))

  -- a state that the plant can leave by a switch is covered by it
  covered_by : (x : PlainPoint) (s : S (state_at l x)) (g : LeavesBySwitch a S (state_at l x)) → Covers (0 + g.number, g.legal.switch) x
  covered_by x s g =
      let w = g.legal.switch in
      let z = g.result in
      let state : IsState a (state_at w.to z.at) = subst (λ k. IsState a (state_at k z.at)) (sym g.legal.enters) g.legal.result in
      let gone : ¬ S (state_at w.to z.at) = subst (λ k. ¬ S (state_at k z.at)) (sym g.legal.enters) g.gone in
      let in_outside : InSome (pieces_at outside w.to) z.at = ((away-states a proper region over w.to).exact z.at state.fits).1 (state, gone) in
      let in_inv : InSome (pieces_at invs l) x = (invs-points a proper region over l x s.state.fits).1 s.state in
      record {
        from = g.legal.leaves;
        env = some_there (slice_get a.switches g.number) w (λ v. v.side ≡ Env) g.legal.is_there g.side;
        leads = some_weaker (λ into. InPiece into z.at) (λ into. SomeOf (λ inv. LeadsInto n w.jump into inv x) (pieces_at invs l) × InSome here x) (pieces_at outside w.to)
            (λ into i. (
              some_weaker (λ inv. InPiece inv x) (λ inv. LeadsInto n w.jump into inv x) (pieces_at invs l) (λ inv k. record { start = k; to = z.at; fits = state.fits; inside = i; jumps = g.legal.jump })
                  ((in_some_of (pieces_at invs l) x).0 in_inv),
              s.some,
            ))
            ((in_some_of (pieces_at outside w.to) z.at).0 in_outside);
      }

  -- the hits of the location
  pub hits-states : AreHits a S l (hits_at a invs outside region l).value
  unfolding hits_at
  hits-states =
      let same : (j : ℕ) → slice_get a.switches (0 + j) ≡ slice_get a.switches j = λ j. let e : 0 + j ≡ j = omega arith in ap (slice_get a.switches) e in
      let adds = walk-adds Good n (hit_by n invs outside region l) Covers (λ p. slice_get a.switches p.0 ≡ Some p.1) by-adds [] (numbered 0 a.switches) tt (numbered_there a.switches a.switches 0 same) in
      record {
        sound = adds.good;
        all = λ x s g.
            adds.covers x s.state.fits (numbered_some (λ p. Covers p x) a.switches 0 g.number (there_some (slice_get a.switches g.number) g.legal.switch (λ v. Covers (0 + g.number, v) x) g.legal.is_there (covered_by x s g)));
      }
