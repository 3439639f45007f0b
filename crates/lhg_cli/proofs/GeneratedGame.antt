-- Some round up to k + 1 removes nothing of the generated plant with k locations.
use Rattle.std.proofs.Common.{◌≡◌, ◌+◌, ◌-◌, ◌<◌, ◌≤◌, ◌⊎◌, ℕ, zero, suc, List, [], ◌∷◌, length, map, slice_get, IsSomeAnd, true, false, not, inl, inr, refl, sym, ap, ◌∙◌, subst, arith, pos}
use Rattle.std.specs.List.{range_with_len}
use Rattle.std.proofs.lemmas.Bool.{not-true}
use Rattle.lhg_math.specs.Gcd.{gcd}
use Rattle.lhg_math.specs.Number.{Number, add, mul, neg, sub, lt, nought, unit, half, whole, ratio, ratio_suc}
use Rattle.lhg_math.specs.NumberRing.{sub_is, nought-add, neg-mul, mul-unit, add_comm}
use Rattle.lhg_math.specs.NumberOrder.{lt-neg, lt_irrefl, lt_asym, lt_trans, le_trans, le-lt_trans, lt-le_trans, lt-difference, mul_positive}
use Rattle.lhg_math.specs.Interpolate.{interpolate}
use Rattle.lhg_math.specs.InterpolateLaws.{interpolate-lt, interpolate_start, interpolate_end, unit-mul}
use Rattle.lhg_math.specs.Places.{IsPlace}
use Rattle.lhg_math.specs.Tests.{by_bool, false_true}
use Rattle.lhg_row.specs.Row.{PlainPoint, Holds}
use Rattle.lhg_row.specs.Piece.{InPiece, InSome}
use Rattle.lhg_motion.specs.Flow.{IsFlow, times}
use Rattle.lhg_motion.specs.Play.{PlainMove, IsPlay, last_point}
use Rattle.lhg_motion.specs.PlayLemmas.{earlier_one}
use Rattle.lhg_plant.specs.declared.plants.Side.TheVariants.{Env}
use Rattle.lhg_plant.specs.Example.{at_most, at_least}
use Rattle.lhg_plant.specs.Plant.{PlainLocation, PlainSwitch, PlainPlant}
use Rattle.lhg_plant.specs.State.{PlainState, IsState, IsSafe, moved_to}
use Rattle.lhg_plant.specs.Legal.{LegalSwitch}
use Rattle.lhg_plant.specs.OutBack.{Out, Back, StaysBy, LeavesBySwitch}
use Rattle.lhg_plant.specs.Escape.{MayPass, IsEscape, HasEscape}
use Rattle.lhg_plant.specs.Round.{InRound}
use Rattle.lhg_loss.specs.StageFacts.{RemovesSome}
use Rattle.lhg_read.specs.Keep.{keep_rows}
use Rattle.lhg_gen.specs.GeneratedPlant.{generated_location, generated_switch, generated_plant}
use Rattle.lhg_gen.specs.Sizes.{IsSize}

-- ---- rows over one variable
most_value : (x : Number) → add nought (mul unit x) ≡ x
most_value x = nought-add (mul unit x) ∙ unit-mul x

least_value : (x : Number) → add nought (mul (neg unit) x) ≡ neg x
least_value x = nought-add (mul (neg unit) x) ∙ neg-mul unit x ∙ ap neg (unit-mul x)

-- x <= n
most_of : (n : ℕ) (x : Number) (xs : PlainPoint) → Holds (at_most n) (x ∷ xs) → lt (whole (pos n)) x ≡ false
most_of n x xs h = ap (λ w. lt (whole (pos n)) w) (sym (most_value x)) ∙ not-true _ h

most_is : (n : ℕ) (x : Number) → lt (whole (pos n)) x ≡ false → Holds (at_most n) (x ∷ [])
most_is n x h = ap not (ap (λ w. lt (whole (pos n)) w) (most_value x) ∙ h)

-- n <= x
least_of : (n : ℕ) (x : Number) (xs : PlainPoint) → Holds (at_least n) (x ∷ xs) → lt x (whole (pos n)) ≡ false
least_of n x xs h = sym (lt-neg (whole (pos n)) x) ∙ ap (λ w. lt (neg (whole (pos n))) w) (sym (least_value x)) ∙ not-true _ h

least_is : (n : ℕ) (x : Number) → lt x (whole (pos n)) ≡ false → Holds (at_least n) (x ∷ [])
least_is n x h = ap not (ap (λ w. lt (neg (whole (pos n))) w) (least_value x) ∙ lt-neg (whole (pos n)) x ∙ h)

-- a point with one coordinate
one : (at : PlainPoint) → length at ≡ 1 → (x : Number) × (at ≡ x ∷ [])
one [] e = absurd (omega (arith, e))
one (x ∷ []) e = (x, refl)
one (x ∷ y ∷ at) e = absurd (omega (arith, e))

-- ---- numbers
-- 17/2 lies in the gap between 8 and 9
abbrev gap : Number
gap = ratio (pos 17) 2

eight_gap : lt (whole (pos 8)) gap ≡ true
unfolding gcd lt whole ratio ratio_suc
eight_gap = refl

gap_nine : lt gap (whole (pos 9)) ≡ true
unfolding gcd lt whole ratio ratio_suc
gap_nine = refl

gap_ten : lt gap (whole (pos 10)) ≡ true
unfolding gcd lt whole ratio ratio_suc
gap_ten = refl

gap_inside : InPiece (at_least 0 ∷ at_most 10 ∷ []) (gap ∷ [])
unfolding gcd lt add mul neg sub nought unit half whole ratio ratio_suc
gap_inside = (refl, (refl, tt))

speed_one : InPiece (at_most 1 ∷ at_least 1 ∷ []) (unit ∷ [])
unfolding gcd lt add mul neg sub nought unit half whole ratio ratio_suc
speed_one = (refl, (refl, tt))

nought_one : lt nought (whole (pos 1)) ≡ true
unfolding gcd lt nought whole ratio ratio_suc
nought_one = refl

-- ---- locations and switches
-- what holds of a location that is there holds of some generated one
some_location : (a k l : ℕ) (P : PlainLocation → Type 0) → IsSomeAnd (slice_get (map generated_location (range_with_len a k)) l) P → (l < k) × (i : ℕ) × P (generated_location i)
some_location a zero zero P h = absurd h
some_location a zero (suc l) P h = absurd h
some_location a (suc k) zero P h = (omega arith, a, h)
some_location a (suc k) (suc l) P h = let r = some_location (a + 1) k l P h in let low = r.0 in (omega (arith, low), r.1, r.2)

-- what holds of each generated location holds of one that is there
each_location : (a k l : ℕ) (P : PlainLocation → Type 0) → l < k → ((i : ℕ) → P (generated_location i)) → IsSomeAnd (slice_get (map generated_location (range_with_len a k)) l) P
each_location a zero l P low h = absurd (omega (arith, low))
each_location a (suc k) zero P low h = h a
each_location a (suc k) (suc l) P low h = each_location (a + 1) k l P (omega (arith, low)) h

-- what holds of a switch that is there holds of some generated one
some_switch : (a n e : ℕ) (P : PlainSwitch → Type 0) → IsSomeAnd (slice_get (map generated_switch (range_with_len a n)) e) P → (i : ℕ) × (a ≤ i) × P (generated_switch i)
some_switch a zero zero P h = absurd h
some_switch a zero (suc e) P h = absurd h
some_switch a (suc n) zero P h = (a, omega arith, h)
some_switch a (suc n) (suc e) P h = let r = some_switch (a + 1) n e P h in let low = r.1 in (r.0, omega (arith, low), r.2)

-- ---- the game
module _ (k : ℕ) where
  abbrev plant : PlainPlant
  plant = generated_plant k

  abbrev here : ℕ → Number → PlainState
  here l x = record { loc = l; at = x ∷ [] }

  -- a state has a location, and is between 0 and 10
  state_is : (l : ℕ) (x : Number) → IsState plant (here l x) → (l < k) × (lt x (whole (pos 0)) ≡ false) × (lt (whole (pos 10)) x ≡ false)
  state_is l x h =
      let r = some_location 1 k l (λ w. InPiece w.inv (x ∷ [])) h.inside in
      (r.0, least_of 0 x [] r.2.0, most_of 10 x [] r.2.1.0)

  is_state : (l : ℕ) (x : Number) → l < k → lt x (whole (pos 0)) ≡ false → lt (whole (pos 10)) x ≡ false → IsState plant (here l x)
  is_state l x low from upto = record { fits = refl; inside = each_location 1 k l (λ w. InPiece w.inv (x ∷ [])) low (λ i. (least_is 0 x from, (most_is 10 x upto, tt))) }

  -- a safe state is up to 8, or from 9 on
  safe_is : (l : ℕ) (x : Number) → IsSafe plant (here l x) → (lt (whole (pos 8)) x ≡ false) ⊎ (lt x (whole (pos 9)) ≡ false)
  safe_is l x h =
      let r = some_location 1 k l (λ w. InSome w.safe (x ∷ [])) h.safe in
      elim r.2 [ inl low ↦ inl (most_of 8 x [] low.0) | inr other ↦ elim other [ inl high ↦ inr (least_of 9 x [] high.0) | inr none ↦ absurd none ] ]

  high_safe : (l : ℕ) (x : Number) → IsState plant (here l x) → lt x (whole (pos 9)) ≡ false → IsSafe plant (here l x)
  high_safe l x state high =
      let r = state_is l x state in
      record { state = state; safe = each_location 1 k l (λ w. InSome w.safe (x ∷ [])) r.0 (λ i. inr (inl (least_is 9 x high, tt))) }

  -- the gap is not safe
  gap_unsafe : (l : ℕ) (x : Number) → lt (whole (pos 8)) x ≡ true → lt x (whole (pos 9)) ≡ true → IsSafe plant (here l x) → ⊥
  gap_unsafe l x above below h = elim (safe_is l x h) [ inl low ↦ false_true (sym low ∙ above) | inr high ↦ false_true (sym high ∙ below) ]

  -- rounds hold safe states
  round_safe : (j : ℕ) (s : PlainState) → InRound plant j s → IsSafe plant s
  round_safe zero s h = h
  round_safe (suc j) s h = round_safe j s h.0

  -- the plant has no switch of its own
  no_env : (S : PlainState → Type 0) (s : PlainState) → LeavesBySwitch plant S s → ⊥
  no_env S s h = let r = some_switch 1 (k - 1) h.number (λ w. w.side ≡ Env) h.side in let e = r.2 in cc

  -- ---- what is from 9 on stays
  -- a flow rises
  flow_rises : (x t : Number) (to : PlainPoint) → IsFlow (at_least 0 ∷ at_most 10 ∷ []) (at_most 1 ∷ at_least 1 ∷ []) (x ∷ []) t to → (y : Number) × (to ≡ y ∷ []) × (lt y x ≡ false)
  flow_rises x t to h =
      let p = one to (sym h.same_length) in
      (p.0, p.1, rises p.0 (subst (λ z. IsFlow (at_least 0 ∷ at_most 10 ∷ []) (at_most 1 ∷ at_least 1 ∷ []) (x ∷ []) t z) p.1 h))
    where
      rises_by : (y : Number) (speed : List Number) → lt nought t ≡ true → sub y x ∷ [] ≡ times t speed → InPiece (at_most 1 ∷ at_least 1 ∷ []) speed → lt y x ≡ false
      rises_by y [] time slope allowed = let n = ap length slope in absurd (omega (arith, n))
      rises_by y (v ∷ vs) time slope allowed =
          let up : lt nought v ≡ true = lt-le_trans nought (whole (pos 1)) v nought_one (least_of 1 v vs allowed.1.0) in
          let head : (zs : List Number) → Number = λ zs. elim zs [ [] ↦ nought | z ∷ more ↦ z ] in
          let step : sub y x ≡ mul t v = ap head slope in
          lt_asym x y (sym (lt-difference x y) ∙ ap (λ w. lt nought w) (sym (sub_is y x) ∙ step) ∙ mul_positive t v time up)

      rises : (y : Number) → IsFlow (at_least 0 ∷ at_most 10 ∷ []) (at_most 1 ∷ at_least 1 ∷ []) (x ∷ []) t (y ∷ []) → lt y x ≡ false
      rises y f = rises_by y f.speed f.takes_time f.slope f.allowed

  -- and so does a play
  play_rises : (x : Number) (moves : List PlainMove) → IsPlay (at_least 0 ∷ at_most 10 ∷ []) (at_most 1 ∷ at_least 1 ∷ []) (x ∷ []) moves → (y : Number) × (last_point (x ∷ []) moves ≡ y ∷ []) × (lt y x ≡ false)
  play_rises x [] h = (x, refl, lt_irrefl x)
  play_rises x (m ∷ ms) h =
      let f = flow_rises x m.time m.to h.0 in
      let r = play_rises f.0 ms (subst (λ p. IsPlay (at_least 0 ∷ at_most 10 ∷ []) (at_most 1 ∷ at_least 1 ∷ []) p ms) f.1 h.1) in
      (r.0, ap (λ p. last_point p ms) f.1 ∙ r.1, le_trans x f.0 r.0 f.2 r.2)

  -- so where it stays in a set, it has no escape from it
  no_escape : (S : PlainState → Type 0) → ((m : ℕ) (y : Number) → IsState plant (here m y) → lt y (whole (pos 9)) ≡ false → S (here m y)) → (l : ℕ) (x : Number)
      → lt x (whole (pos 9)) ≡ false → (moves : List PlainMove) → IsEscape plant S (Back plant S) (here l x) moves → ⊥
  no_escape S stays l x high moves h =
      let play = some_location 1 k l (λ w. IsPlay w.inv w.flow (x ∷ []) moves) h.play.play in
      let r = play_rises x moves play.2 in
      let ends : Out plant S (here l r.0) = subst (λ (p : PlainPoint). Out plant S (record { loc = l; at = p })) r.1 h.ends in
      elim ends [
        | inl out ↦ out.1 (stays l r.0 out.0 (le_trans (whole (pos 9)) x r.0 high r.2))
        | inr out ↦ no_env S (here l r.0) out
      ]

  high_stays : (j l : ℕ) (x : Number) → IsState plant (here l x) → lt x (whole (pos 9)) ≡ false → InRound plant j (here l x)
  high_stays zero l x state high = high_safe l x state high
  high_stays (suc j) l x state high = (high_stays j l x state high, λ escape. no_escape (InRound plant j) (high_stays j) l x high escape.0 escape.1)

  -- ---- what is up to 8 goes, in the last locations first
  -- a switch leads to the next location, and not higher
  switch_leads : (e l : ℕ) (x : Number) (z : PlainState) → LegalSwitch plant e (here l x) z → (y : Number) × (z.at ≡ y ∷ []) × (z.loc ≡ l + 1) × (lt x y ≡ false)
  switch_leads e l x z legal =
      let there : IsSomeAnd (slice_get plant.switches e) (λ w. w ≡ legal.switch) = subst (λ o. IsSomeAnd o (λ w. w ≡ legal.switch)) (sym legal.is_there) refl in
      let r = some_switch 1 (k - 1) e (λ w. w ≡ legal.switch) there in
      let p = one z.at legal.result.fits in
      let low = r.1 in
      let from : r.0 - 1 ≡ l = ap (λ (w : PlainSwitch). w.from) r.2 ∙ legal.leaves in
      let to : r.0 ≡ z.loc = ap (λ (w : PlainSwitch). w.to) r.2 ∙ legal.enters in
      let jump : InPiece (keep_rows 1) (x ∷ z.at) = subst (λ (w : PlainSwitch). InPiece w.jump (x ∷ z.at)) (sym r.2) legal.jump in
      let kept : InPiece (keep_rows 1) (x ∷ p.0 ∷ []) = subst (λ q. InPiece (keep_rows 1) (x ∷ q)) p.1 jump in
      (p.0, p.1, omega (arith, low, from, to), not_higher p.0 kept.0)
    where
      change : (y : Number) → add (add nought (mul (neg unit) x)) (mul unit y) ≡ add y (neg x)
      change y = ap (λ w. add w (mul unit y)) (least_value x) ∙ ap (λ w. add (neg x) w) (unit-mul y) ∙ add_comm (neg x) y

      not_higher : (y : Number) → not (lt nought (add (add nought (mul (neg unit) x)) (mul unit y))) ≡ true → lt x y ≡ false
      not_higher y h = sym (lt-difference x y) ∙ ap (λ w. lt nought w) (sym (change y)) ∙ not-true _ h

  -- where the next locations have lost it, and the set is safe, it has an escape through the gap
  low_escapes : (S : PlainState → Type 0) → ((s : PlainState) → S s → IsSafe plant s) → (j : ℕ)
      → ((m : ℕ) (y : Number) → k ≤ m + j → IsState plant (here m y) → lt (whole (pos 8)) y ≡ false → S (here m y) → ⊥)
      → (l : ℕ) (x : Number) → k ≤ l + suc j → IsState plant (here l x) → lt (whole (pos 8)) x ≡ false → HasEscape plant S (Back plant S) (here l x)
  low_escapes S safe j gone l x last state low = (move ∷ [], escape)
    where
      move : PlainMove
      move = record { time = sub gap x; to = gap ∷ [] }

      up : lt x gap ≡ true
      up = le-lt_trans x (whole (pos 8)) gap low eight_gap

      is : (l < k) × (lt x (whole (pos 0)) ≡ false) × (lt (whole (pos 10)) x ≡ false)
      is = state_is l x state

      flows : IsFlow (at_least 0 ∷ at_most 10 ∷ []) (at_most 1 ∷ at_least 1 ∷ []) (x ∷ []) move.time (gap ∷ [])
      flows = record {
        takes_time = ap (λ w. lt nought w) (sub_is gap x) ∙ lt-difference x gap ∙ up;
        from_in = (least_is 0 x is.1, (most_is 10 x is.2, tt));
        to_in = gap_inside;
        same_length = refl;
        speed = unit ∷ [];
        slope = ap (λ w. w ∷ []) (sym (mul-unit (sub gap x)));
        allowed = speed_one;
      }

      -- the controller has nowhere to go
      not_back : (y : Number) → lt (whole (pos 8)) y ≡ false → Back plant S (here l y) → ⊥
      not_back y under b =
          let r = some_switch 1 (k - 1) b.0 (λ w. StaysBy w.side plant S b.0 (here l y)) b.1 in
          let z = r.2.0.0 in
          let legal = r.2.0.1 in
          let n = switch_leads b.0 l y z legal in
          let next = n.2 in
          let same : z ≡ here z.loc n.0 = ap (λ (q : PlainPoint). record { loc = z.loc; at = q }) n.1 in
          gone z.loc n.0 (omega (arith, last, next)) (subst (λ (q : PlainState). IsState plant q) same legal.result) (le_trans n.0 y (whole (pos 8)) n.3 under)
          (subst (λ (q : PlainState). S q) same (r.2.1 z legal))

      passes : (p : Number) → IsPlace p → lt p unit ≡ true → MayPass plant S (Back plant S) (here l (interpolate x gap p))
      passes p place before =
          let y = interpolate x gap p in
          let from : lt y x ≡ false = ap (λ w. lt y w) (sym (interpolate_start x gap)) ∙ interpolate-lt x gap p nought up ∙ place.from in
          let below : lt y gap ≡ true = ap (λ w. lt y w) (sym (interpolate_end x gap)) ∙ interpolate-lt x gap p unit up ∙ before in
          let s : IsState plant (here l y) = is_state l y is.0 (le_trans (whole (pos 0)) x y is.1 from) (lt_asym y (whole (pos 10)) (lt_trans y gap (whole (pos 10)) below gap_ten)) in
          by_bool (lt (whole (pos 8)) y)
          (λ above. inl (inl (s, λ r. gap_unsafe l y above (lt_trans y gap (whole (pos 9)) below gap_nine) (safe (here l y) r))))
          (λ under. inr (not_back y under))

      escape : IsEscape plant S (Back plant S) (here l x) (move ∷ [])
      escape = record {
        play = record { start = state; play = each_location 1 k l (λ w. IsPlay w.inv w.flow (x ∷ []) (move ∷ [])) is.0 (λ i. (flows, gap_inside)) };
        ends = inl (
          is_state l gap is.0 (least_of 0 gap [] gap_inside.0) (lt_asym gap (whole (pos 10)) gap_ten),
          λ r. gap_unsafe l gap eight_gap gap_nine (safe (here l gap) r),
        );
        earlier = earlier_one (λ q. MayPass plant S (Back plant S) (moved_to (here l x) q)) (x ∷ []) move passes;
      }

  low_goes : (j l : ℕ) (x : Number) → k ≤ l + j → IsState plant (here l x) → lt (whole (pos 8)) x ≡ false → InRound plant j (here l x) → ⊥
  low_goes zero l x last state low h = let r = state_is l x state in let there = r.0 in omega (arith, last, there)
  low_goes (suc j) l x last state low h = h.1 (low_escapes (InRound plant j) (round_safe j) j (low_goes j) l x last state low)

  -- ---- so round k + 1 removes nothing
  removes_nothing : RemovesSome plant (k + 1) → ⊥
  removes_nothing r =
      let s = r.0 in
      let round : r.1.round ≡ k = let n = r.1.number in omega (arith, n) in
      let kept : InRound plant k s = subst (λ (j : ℕ). InRound plant j s) round r.1.kept in
      let safe = round_safe k s kept in
      let p = one s.at safe.state.fits in
      let same : s ≡ here s.loc p.0 = ap (λ (q : PlainPoint). record { loc = s.loc; at = q }) p.1 in
      let state : IsState plant (here s.loc p.0) = subst (λ (q : PlainState). IsState plant q) same safe.state in
      elim (safe_is s.loc p.0 (subst (λ (q : PlainState). IsSafe plant q) same safe)) [
        | inl low ↦ low_goes k s.loc p.0 (omega arith) state low (subst (λ (q : PlainState). InRound plant k q) same kept)
        | inr high ↦ r.1.gone (subst (λ (q : PlainState). InRound plant (k + 1) q) (sym same) (high_stays (k + 1) s.loc p.0 state high))
      ]

-- not each round up to 1,000 removes a state
pub settles : (k : ℕ) → IsSize k → ((j : ℕ) → 0 < j → j ≤ 1000 → RemovesSome (generated_plant k) j) → ⊥
settles k size h = let few = size.few in removes_nothing k (h (k + 1) (omega arith) (omega (arith, few)))
