-- A run of a valid controller has an answer at each flow entry.
use Rattle.std.proofs.Common.{◌≡◌, ◌⊎◌, inl, inr, ℕ, [], ◌∷◌, slice_get, refl, sym, ap, ◌∙◌, subst, true}
use Rattle.lhg_math.specs.Number.{Number, mul, neg, lt, nought, unit, mid}
use Rattle.lhg_math.specs.NumberOrder.{lt-neg, lt_antisymm, lt_trans, le-lt_trans}
use Rattle.lhg_math.specs.Interpolate.{interpolate}
use Rattle.lhg_math.specs.InterpolateLaws.{interpolate-lt, interpolate_end}
use Rattle.lhg_math.specs.Places.{IsPlace}
use Rattle.lhg_math.specs.Tests.{by_bool}
use Rattle.lhg_row.specs.Row.{PlainPoint}
use Rattle.lhg_motion.specs.Segment.{along}
use Rattle.lhg_motion.specs.SegmentLemmas.{along_start}
use Rattle.lhg_motion.specs.Join.{flow_upto}
use Rattle.lhg_motion.specs.Play.{PlainMove}
use Rattle.lhg_motion.specs.PlayLemmas.{earlier_one}
use Rattle.lhg_motion.specs.CheckPoint.{IsBetween}
use Rattle.lhg_row.specs.Decisions.{clash}
use Rattle.lhg_row.specs.Members.{all_some}
use Rattle.lhg_motion.specs.CheckList.{CheckPlace}
use Rattle.lhg_motion.specs.CheckPlaces.{AllChecks, all_checks, Least, find_least, only_middle, check_is_place, mid_between}
use Rattle.lhg_motion.specs.Enclose.{enclose}
use Rattle.lhg_plant.specs.Plant.{PlainPlant}
use Rattle.lhg_plant.specs.State.{PlainState, moved_to}
use Rattle.lhg_plant.specs.Legal.{LegalFlow}
use Rattle.lhg_plant.specs.Escape.{MayPass}
use Rattle.lhg_plant.specs.Region.{InRegion, InSomeGuard}
use Rattle.lhg_plant.specs.Controller.{PlainController, IsValid}
use Rattle.lhg_plant.specs.Run.{run_rows, IsCheckOf, state_along, PassesWhole, IsFirstOutside, StopsAt}
use Rattle.lhg_plant.proofs.Decided.{region_decided}
use Rattle.lhg_plant.proofs.Options.{some_weaken}
use Rattle.lhg_plant.proofs.GuardTruth.{guard_carried, first_guard, some_guard_decided}
use Rattle.lhg_plant.proofs.RunInside.{flow_length, along_state}
use Rattle.lhg_plant.proofs.StaysInside.{part_place, part_along}

module _ (a : PlainPlant) (c : PlainController) (valid : IsValid a c) (s : PlainState) (t : Number) (y : PlainPoint) (h : LegalFlow a s t y) where
  -- a check point of the flow
  abbrev Check : Type 0
  Check = CheckPlace (run_rows a c s.loc) s.at y

  -- some guard holds at the place
  abbrev Guarded : Number → Type 0
  Guarded p = InSomeGuard a c.guards (state_along s y p)

  -- all check points of the flow
  checks : AllChecks (run_rows a c s.loc) s.at y (flow_length a s t y h)
  checks = all_checks (run_rows a c s.loc) s.at y (flow_length a s t y h)

  -- where a guard holds the state is in the region
  guarded_inside : (p : Number) → Guarded p → InRegion a c.region (state_along s y p)
  guarded_inside p g = (valid.guarded g.0 (state_along s y p) g.1).0

  -- before a check point outside some check point has a guard
  module _ (start : InRegion a c.region s) (z : Number) (check : IsCheckOf a c s y z) (out : ¬ InRegion a c.region (state_along s y z)) where
    past_start : lt nought z ≡ true
    past_start =
        let place = check_is_place (run_rows a c s.loc) s.at y z check in
        by_bool (lt nought z) (λ e. e)
        (λ e.
        let same : z ≡ nought = sym (lt_antisymm nought z e place.from) in
        let there : state_along s y z ≡ s = ap (λ w. state_along s y w) same ∙ ap (λ w. moved_to s w) (along_start s.at y (flow_length a s t y h)) in
        absurd (out (subst (λ (w : PlainState). InRegion a c.region w) (sym there) start)))

    -- no guard before z: none holds at any place before z
    none_before : ((q : Number) → IsCheckOf a c s y q → lt q z ≡ true → ¬ Guarded q) → (u : Number) → IsPlace u → lt u z ≡ true → ¬ Guarded u
    none_before none u i less g =
        elim (enclose (run_rows a c s.loc) s.at y u (flow_length a s t y h) i) [
          | inl cut ↦ none u (inl cut) less g
          | inr f ↦
              (let m = mid f.left f.right in
              let k = mid_between f.left f.right f.neighbours.order in
              let g_m : Guarded m = (g.0, guard_carried a c s t y f.left f.right u m g.0 h f.neighbours f.between k g.1) in
              let m_check : IsCheckOf a c s y m = inr (record { left = f.left; right = f.right; neighbours = f.neighbours; middle = refl }) in
              by_bool (lt m z)
              (λ e. none m m_check e g_m)
              (λ e.
              let z_between : IsBetween f.left f.right z = record { left = lt_trans f.left u z f.between.left less; right = le-lt_trans z m f.right e k.right } in
              let same : z ≡ m = only_middle (run_rows a c s.loc) s.at y f.left f.right z f.neighbours z_between check in
              out (guarded_inside z (subst (λ (w : Number). Guarded w) (sym same) g_m))))
        ]

    -- the part of the flow up to z would be an escape
    some_before : ((q : Number) → IsCheckOf a c s y q → lt q z ≡ true → ¬ Guarded q) → ⊥
    some_before none =
        let place = check_is_place (run_rows a c s.loc) s.at y z check in
        let move : PlainMove = record { time = mul z t; to = along s.at y z } in
        let less_z = λ (q : Number) (j : IsPlace q) (l : lt q unit ≡ true). ap (λ w. lt (interpolate nought z q) w) (sym (interpolate_end nought z)) ∙ interpolate-lt nought z q unit past_start ∙ l in
        valid.closed s start (
          move ∷ [],
          record {
            play = record {
              start = h.start;
              play = some_weaken _ _ (λ l f. let g = flow_upto l.inv l.flow s.at y t z f place past_start in (g, g.to_in)) (slice_get a.locs s.loc) h.flow;
            };
            ends = inl (along_state a s t y z h place, out);
            earlier = earlier_one (λ x. MayPass a (InRegion a c.region) (InSomeGuard a c.guards) (moved_to s x)) s.at move
                (λ q j l. inr (subst (λ (w : PlainState). ¬ InSomeGuard a c.guards w) (sym (part_along s y z q (flow_length a s t y h))) (none_before none (interpolate nought z q) (part_place z q place j) (less_z q j l))));
          },
        )

  -- the check point is outside the region
  abbrev Outside : Check → Type 0
  Outside k = ¬ InRegion a c.region (state_along s y k.at)

  -- it is outside or not
  outside_decided : (k : Check) → Outside k ⊎ ¬ Outside k
  outside_decided k = elim (region_decided a c.region (state_along s y k.at)) [ inl i ↦ inr (λ o. o i) | inr n ↦ inl n ]

  -- the check point is before z, and some guard holds there
  abbrev GuardedBefore : Number → Check → Type 0
  GuardedBefore z k = (lt k.at z ≡ true) × Guarded k.at

  -- it is so or not
  before_decided : (z : Number) (k : Check) → GuardedBefore z k ⊎ ¬ GuardedBefore z k
  before_decided z k =
      by_bool (lt k.at z)
      (λ e. elim (some_guard_decided a c.guards (state_along s y k.at)) [ inl g ↦ inl (e, g) | inr n ↦ inr (λ b. n b.1) ])
      (λ e. inr (λ b. clash (lt k.at z) b.0 e))

  -- the run stops at some place by some switch
  abbrev Stops : Type 0
  Stops = (p : Number) × (e : ℕ) × StopsAt a c s y p e

  -- where some check point is outside, the run stops before the first of them
  stops : InRegion a c.region s → Least (λ k. k.at) Outside checks.checks → Stops
  stops start l =
      let z = l.member.at in
      let first : IsFirstOutside a c s y z = record {
        check = l.member.check;
        outside = l.holds;
        before = λ q k less. elim (region_decided a c.region (state_along s y q)) [
          | inl i ↦ i
          | inr n ↦ all_some _ (λ x. x.at ≡ q) (InRegion a c.region (state_along s y q)) (λ x f e. clash (lt q z) less (ap (λ w. lt w z) (sym e) ∙ f (λ i. n (subst (λ (w : Number). InRegion a c.region (state_along s y w)) e i)))) checks.checks l.least (checks.all q k)
        ];
      } in
      elim (find_least (λ k. neg k.at) (GuardedBefore z) (before_decided z) checks.checks) [
        | inl none ↦ absurd (some_before start z l.member.check l.holds
            (λ q k less g. all_some _ (λ x. x.at ≡ q) ⊥ (λ x f e. f (ap (λ w. lt w z) e ∙ less, subst (λ (w : Number). Guarded w) (sym e) g)) checks.checks none (checks.all q k)))
        | inr m ↦
            (let p = m.member.at in
            let guard = first_guard a c.guards (state_along s y p) m.holds.1 in (
              p,
              guard.0,
              record {
                end_place = z;
                first = first;
                check = m.member.check;
                before = m.holds.0;
                guard = guard.1;
                last = λ q d k more less g. all_some _ (λ x. x.at ≡ q) ⊥
                    (λ x f e. clash (lt p q) more (sym (lt-neg q p) ∙ ap (λ w. lt (neg w) (neg p)) (sym e) ∙ f (ap (λ w. lt w z) e ∙ less, subst (λ (w : Number). Guarded w) (sym e) (d, g))))
                    checks.checks m.least (checks.all q k);
              },
            ))
      ]

  -- the run has an answer at a flow entry
  pub flow_answers : InRegion a c.region s → PassesWhole a c s y ⊎ Stops
  flow_answers start =
      elim (find_least (λ k. k.at) Outside outside_decided checks.checks) [
        | inl none ↦ inl (λ p k. elim (region_decided a c.region (state_along s y p)) [
          | inl i ↦ i
          | inr n ↦ all_some _ (λ x. x.at ≡ p) (InRegion a c.region (state_along s y p)) (λ x f e. absurd (f (λ i. n (subst (λ (w : Number). InRegion a c.region (state_along s y w)) e i)))) checks.checks none (checks.all p k)
        ])
        | inr l ↦ inr (stops start l)
      ]
