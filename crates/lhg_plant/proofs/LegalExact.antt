-- The truth that is formed of a state, a flow or a switch is whether it is legal.
use Rattle.std.proofs.Common.{◌≡◌, ◌↔◌, ◌==◌, ℕ, List, [], ◌∷◌, ◌++◌, length, map, refl, sym, ap, ◌∙◌, subst, Bool, true, false, cond, not, ◌&&◌, eq-eqb, Option, Some, None, IsSomeAnd, slice_get, Result, Ok, Err}
use Rattle.std.specs.Prelude.{IfOk, IsTrue}
use Rattle.std.proofs.lemmas.Bool.{eqb-true, and_parts, and_from}
use Rattle.lhg_math.specs.Number.{Number, add, mul, sub, lt, nought, compare}
use Rattle.lhg_math.specs.NumberRing.{mul_assoc, mul_comm}
use Rattle.lhg_math.specs.Tests.{by_bool, false_true}
use Rattle.lhg_num.specs.Arithmetic.{Arithmetic}
use Rattle.lhg_num.specs.Halting.{IsWideBy}
use Rattle.lhg_num.specs.Marked.{Marked}
use Rattle.lhg_row.specs.Row.{PlainRow, PlainPoint, row_value, holds_at}
use Rattle.lhg_row.specs.Piece.{PlainPiece, InPiece, in_piece}
use Rattle.lhg_row.specs.PieceLemmas.{in_piece_is}
use Rattle.lhg_motion.specs.Flow.{displacement, times, IsFlow}
use Rattle.lhg_motion.specs.SpeedLemmas.{speed_flow}
use Rattle.lhg_row.specs.MarkedTests.{marked_all-value}
use Rattle.lhg_row.specs.Truths.{piece_truth, piece_truth-value}
use Rattle.lhg_row.specs.Values.{marked_value, fits_order, with_bound}
use Rattle.lhg_row.specs.ValueLaws.{truth-value, holds-scaled}
use Rattle.lhg_plant.specs.Plant.{PlainLocation, PlainSwitch, PlainPlant}
use Rattle.lhg_plant.specs.State.{PlainState, IsState}
use Rattle.lhg_plant.specs.Legal.{LegalFlow, LegalSwitchTo}
use Rattle.lhg_plant.specs.LegalTruths.{told_of, marked_change, flow_row_truth, flow_rows_truth, state_truth, flow_truth, legal_flow_truth, switch_truth, legal_switch_truth}
use Rattle.lhg_plant.proofs.Options.{some_weaken}

-- what is told of the value is whether the fact holds of it
pub told-exact : {A : Type 0} (f : A → Marked Bool) (P : A → Type 0) → ((x : A) → ((f x).value ≡ true) ↔ P x) → (o : Option A) → ((told_of f o).value ≡ true) ↔ IsSomeAnd o P
told-exact f P h None = (λ e. false_true e, λ k. absurd k)
told-exact f P h (Some x) = h x

-- an answer that is the truth says whether the fact holds
pub exact_by : {P E : Type 0} (r : Result Bool E) (m : Marked Bool) → IsWideBy r m (λ b. b) → ((m.value ≡ true) ↔ P) → IfOk r (λ b. IsTrue b ↔ P)
exact_by (Ok b) m e h = (λ t. h.0 (sym e ∙ t), λ p. e ∙ h.1 p)
exact_by (Err x) m e h = tt

-- ---- rows

module _ (rows : PlainPiece) (x : PlainPoint) (a : Arithmetic) where
  rows_in : (piece_truth a rows x).value ≡ true → InPiece rows x
  rows_in e = (in_piece_is rows x).1 (sym (piece_truth-value a rows x) ∙ e)

  in_rows : InPiece rows x → (piece_truth a rows x).value ≡ true
  in_rows h = piece_truth-value a rows x ∙ (in_piece_is rows x).0 h

-- the value on differences is that at the displacement
change-value : (a : Arithmetic) (s : Number) (cs : List Number) (x y : PlainPoint) → (marked_change a s cs x y).value ≡ (marked_value a s cs (displacement x y)).value
change-value a s [] xs ys = refl
change-value a s (c ∷ cs) [] ys = refl
change-value a s (c ∷ cs) (x ∷ xs) [] = refl
change-value a s (c ∷ cs) (x ∷ xs) (y ∷ ys) = change-value a (add s (mul c (sub y x))) cs xs ys

-- a factor of the point may stand at the coefficients
value-times : (t s : Number) (cs : List Number) (f : PlainPoint) → row_value s cs (times t f) ≡ row_value s (map (λ c. mul t c) cs) f
value-times t s [] f = refl
value-times t s (c ∷ cs) [] = refl
value-times t s (c ∷ cs) (x ∷ f) =
    ap (λ w. row_value (add s w) cs (times t f)) (sym (mul_assoc c t x) ∙ ap (λ w. mul w x) (mul_comm c t)) ∙ value-times t (add s (mul (mul t c) x)) cs f

-- where a speed makes the displacement in the time, the row lets the state move exactly where it holds at the speed
module _ (a : Arithmetic) (x : PlainPoint) (t : Number) (y : PlainPoint) (f : List Number) (above : lt nought t ≡ true) (slope : displacement x y ≡ times t f) where
  row-speed : (r : PlainRow) → (flow_row_truth a r x t y).value ≡ holds_at r f
  row-speed r =
      ap (λ v. fits_order r.strict (compare v (mul r.bound t))) (change-value a nought r.coefs x y) ∙ truth-value a (with_bound r (mul r.bound t)) (displacement x y)
      ∙ ap (λ d. holds_at (with_bound r (mul r.bound t)) d) slope ∙ ap (λ b. holds_at (with_bound r b) (times t f)) (mul_comm r.bound t) ∙ ap (λ v. under v) (value-times t nought r.coefs f)
      ∙ holds-scaled t r f above
    where
      under : Number → Bool
      under v = cond r.strict (lt v (mul t r.bound)) (not (lt (mul t r.bound) v))

  rows-speed : (rows : PlainPiece) → (flow_rows_truth a rows x t y).value ≡ in_piece rows f
  rows-speed rows = marked_all-value (λ r. flow_row_truth a r x t y) (λ r. holds_at r f) row-speed rows

-- ---- flows

-- a flow in the location
module _ (a : Arithmetic) (l : PlainLocation) (x : PlainPoint) (t : Number) (y : PlainPoint) (long : length x ≡ length y) where
  flow_legal : (flow_truth a l x t y).value ≡ true → IsFlow l.inv l.flow x t y
  flow_legal e =
      by_bool (lt nought t)
      (λ h.
      let k : ((piece_truth a l.inv x).value && ((piece_truth a l.inv y).value && (flow_rows_truth a l.flow x t y).value)) ≡ true = rw h at e in
      let p = and_parts (piece_truth a l.inv x).value _ k in
      let q = and_parts (piece_truth a l.inv y).value _ p.1 in
      let free : IsFlow [] [] x t y = speed_flow [] [] x t y (record { takes_time = h; from_in = tt; to_in = tt; same_length = long; allowed = tt }) in
      record {
        takes_time = h;
        from_in = rows_in l.inv x a p.0;
        to_in = rows_in l.inv y a q.0;
        same_length = long;
        speed = free.speed;
        slope = free.slope;
        allowed = (in_piece_is l.flow free.speed).1 (sym (rows-speed a x t y free.speed h free.slope l.flow) ∙ q.1);
      })
      (λ h. let k : false ≡ true = rw h at e in false_true k)

  legal_flows : IsFlow l.inv l.flow x t y → (flow_truth a l x t y).value ≡ true
  legal_flows f =
      let h = f.takes_time in
      rw h
      (and_from (piece_truth a l.inv x).value _ (in_rows l.inv x a f.from_in)
      (and_from (piece_truth a l.inv y).value _ (in_rows l.inv y a f.to_in)
      (rows-speed a x t y f.speed f.takes_time f.slope l.flow ∙ (in_piece_is l.flow f.speed).0 f.allowed)))

-- ---- states, flows and switches of a plant

module _ (a : Arithmetic) (p : PlainPlant) where
  pub state_exact : (s : PlainState) → length s.at ≡ length p.vars → ((state_truth a p s).value ≡ true) ↔ IsState p s
  state_exact s fits =
      let told = told-exact (λ l. piece_truth a l.inv s.at) (λ l. InPiece l.inv s.at) (λ l. (rows_in l.inv s.at a, in_rows l.inv s.at a)) (slice_get p.locs s.loc) in
      (λ e. record { fits = fits; inside = told.0 e }, λ h. told.1 h.inside)

  pub flow_exact : (s : PlainState) (t : Number) (y : PlainPoint) → length s.at ≡ length p.vars → length y ≡ length p.vars → ((legal_flow_truth a p s t y).value ≡ true) ↔ LegalFlow p s t y
  flow_exact s t y fits ends =
      let told = told-exact (λ l. flow_truth a l s.at t y) (λ l. IsFlow l.inv l.flow s.at t y) (λ l. (flow_legal a l s.at t y (fits ∙ sym ends), legal_flows a l s.at t y (fits ∙ sym ends))) (slice_get p.locs s.loc) in
      (λ e. let f = told.0 e in record { start = record { fits = fits; inside = some_weaken _ _ (λ l k. k.from_in) (slice_get p.locs s.loc) f }; flow = f }, λ h. told.1 h.flow)

  module _ (e : ℕ) (s : PlainState) (y : PlainPoint) (fits : length s.at ≡ length p.vars) (ends : length y ≡ length p.vars) where
    abbrev entered : ℕ → PlainState
    entered m = record { loc = m; at = y }

    switch_legal : (o : Option PlainSwitch) → slice_get p.switches e ≡ o → (told_of (λ w. switch_truth a p w s y) o).value ≡ true → LegalSwitchTo p e s y
    switch_legal None is k = false_true k
    switch_legal (Some w) is k =
        by_bool (w.from == s.loc)
        (λ h.
        let m : ((state_truth a p s).value && ((state_truth a p (entered w.to)).value && (piece_truth a w.jump (s.at ++ y)).value)) ≡ true = rw h at k in
        let u = and_parts (state_truth a p s).value _ m in
        let v = and_parts (state_truth a p (entered w.to)).value _ u.1 in (
          w.to,
          record {
            switch = w;
            is_there = is;
            leaves = eqb-true w.from s.loc h;
            enters = refl;
            start = (state_exact s fits).0 u.0;
            result = (state_exact (entered w.to) ends).0 v.0;
            jump = rows_in w.jump (s.at ++ y) a v.1;
          },
        ))
        (λ h. let m : false ≡ true = rw h at k in false_true m)

    legal_switches : LegalSwitchTo p e s y → (legal_switch_truth a p e s y).value ≡ true
    legal_switches g =
        let h = g.1 in
        let w = h.switch in
        let leaves : (w.from == s.loc) ≡ true = eq-eqb w.from s.loc h.leaves in
        let result : IsState p (entered w.to) = subst (λ m. IsState p (entered m)) (sym h.enters) h.result in
        ap (λ o. (told_of (λ w. switch_truth a p w s y) o).value) h.is_there
        ∙ rw leaves
        (and_from (state_truth a p s).value _ ((state_exact s fits).1 h.start)
        (and_from (state_truth a p (entered w.to)).value _ ((state_exact (entered w.to) ends).1 result) (in_rows w.jump (s.at ++ y) a h.jump)))

    pub switch_exact : ((legal_switch_truth a p e s y).value ≡ true) ↔ LegalSwitchTo p e s y
    switch_exact = (switch_legal (slice_get p.switches e) refl, legal_switches)
