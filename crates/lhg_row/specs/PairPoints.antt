-- Which constraints on one variable are two opposite rows?
use Rattle.std.specs.Prelude.{◌≡◌, ℕ, zero, suc, true, false, List, [], ◌∷◌, map, get_or, remove}
use Rattle.std.proofs.Common.{refl, sym, ap, ◌∙◌}
use Rattle.std.proofs.lemmas.Bool.{and_parts}
use Rattle.lhg_math.specs.Number.{Number, add, mul, neg, lt, nought}
use Rattle.lhg_math.specs.NumberRing.{mul_assoc, mul-add, mul-nought, mul-neg, neg-mul, neg_neg, neg_nought}
use Rattle.lhg_math.specs.NumberOrder.{lt-mul, lt-nought_neg, lt-neg, mul_cancel}
use Rattle.lhg_math.specs.Signs.{is_nought, lead, same_number}
use Rattle.lhg_math.specs.SignLaws.{nought_is, size_above, same_is, is_nought-nought}
use Rattle.lhg_math.specs.Tests.{by_bool, false_true}
use Rattle.lhg_num.specs.Arithmetic.{Arithmetic}
use Rattle.lhg_row.specs.Row.{PlainRow, PlainPoint, row_value}
use Rattle.lhg_row.specs.Column.{coef_at, level_at}
use Rattle.lhg_row.specs.Constant.{is_constant}
use Rattle.lhg_row.specs.Combination.{AreOpposed, up_down, down_up}
use Rattle.lhg_row.specs.ValueLaws.{value-scaled}
use Rattle.lhg_row.specs.Trim.{lead_size, agree}
use Rattle.lhg_row.specs.TrimLaws.{agree-same}
use Rattle.lhg_row.specs.Eliminate.{is_opposite}
use Rattle.lhg_row.specs.Bars.{Bar}
use Rattle.lhg_row.specs.ColumnLaws.{bar_at}

-- ---- signs
-- f * c = -g * d for positive f and g
module _ (f g c d : Number) (f_up : lt nought f ≡ true) (g_up : lt nought g ≡ true) (e : mul f c ≡ mul (neg g) d) where
  -- where positive factors make one number the negative of another, the one is above 0 exactly where the other is below
  sign_up : lt nought c ≡ lt d nought
  sign_up =
      sym (ap (λ w. lt w (mul f c)) (sym (mul-nought f)) ∙ lt-mul f nought c f_up)
      ∙ ap (λ w. lt nought w) (e ∙ neg-mul g d)
      ∙ lt-nought_neg (mul g d)
      ∙ ap (λ w. lt (mul g d) w) (sym (mul-nought g)) ∙ lt-mul g d nought g_up

  -- and below 0 exactly where the other is above
  sign_down : lt c nought ≡ lt nought d
  sign_down =
      sym (ap (λ w. lt (mul f c) w) (sym (mul-nought f)) ∙ lt-mul f c nought f_up)
      ∙ ap (λ w. lt w nought) (e ∙ neg-mul g d)
      ∙ ap (λ w. lt (neg (mul g d)) w) (sym neg_nought) ∙ lt-neg (mul g d) nought
      ∙ ap (λ w. lt w (mul g d)) (sym (mul-nought g)) ∙ lt-mul g nought d g_up

  -- where the one is above 0, the other is below
  opposed_up : lt nought c ≡ true → AreOpposed c d
  opposed_up h = up_down h (sym sign_up ∙ h)

  -- and the other way round
  opposed_down : lt c nought ≡ true → AreOpposed c d
  opposed_down h = down_up h (sym sign_down ∙ h)

  -- d * v = t where c * v = s and the slacks stand to one another as the coefficients
  other_met : (s t v : Number) → mul f s ≡ mul (neg g) t → mul c v ≡ s → mul d v ≡ t
  other_met s t v h k =
      mul_cancel g (mul d v) t g_up
      (sym (neg_neg (mul g (mul d v))) ∙ ap neg (sym (neg-mul g (mul d v)) ∙ sym (mul_assoc (neg g) d v) ∙ ap (λ w. mul w v) (sym e) ∙ mul_assoc f c v ∙ ap (λ w. mul f w) k ∙ h ∙ neg-mul g t) ∙ neg_neg (mul g t))

-- ---- from equal entries to coefficients and slacks
lead-get_or : (cs : List Number) (k : ℕ) → is_nought (lead cs) ≡ true → get_or cs k nought ≡ nought
lead-get_or [] k h = refl
lead-get_or (c ∷ cs) zero h = by_bool (is_nought c) (λ e. nought_is c e) (λ e. let t : is_nought c ≡ true = rw e at h in false_true (sym e ∙ t))
lead-get_or (c ∷ cs) (suc k) h =
    by_bool (is_nought c) (λ e. let t : is_nought (lead cs) ≡ true = rw e at h in lead-get_or cs k t)
    (λ e. let t : is_nought c ≡ true = rw e at h in false_true (sym e ∙ t))

-- a row with a coefficient other than 0 has a variable
pub there-varies : (k : ℕ) (r : PlainRow) → level_at k r ≡ false → is_constant r ≡ false
there-varies k r h =
    by_bool (is_constant r) (λ e. false_true (sym h ∙ (ap is_nought (lead-get_or r.coefs k e) ∙ is_nought-nought))) (λ e. e)

-- the negatives of multiples are the multiples with the negative
neg_times : (g : Number) (xs : List Number) → map (λ x. neg (mul g x)) xs ≡ map (λ x. mul (neg g) x) xs
neg_times g [] = refl
neg_times g (x ∷ xs) = ap (λ y. y ∷ map (λ z. neg (mul g z)) xs) (sym (neg-mul g x)) ∙ ap (λ ys. mul (neg g) x ∷ ys) (neg_times g xs)

-- a multiple of a row has the multiple of its entry
get_or-times : (m : Number) (cs : List Number) (k : ℕ) → get_or (map (λ x. mul m x) cs) k nought ≡ mul m (get_or cs k nought)
get_or-times m [] k = sym (mul-nought m)
get_or-times m (c ∷ cs) zero = refl
get_or-times m (c ∷ cs) (suc k) = get_or-times m cs k

-- and of what is left without a place
remove-times : (m : Number) (k : ℕ) (cs : List Number) → remove (map (λ x. mul m x) cs) k ≡ map (λ x. mul m x) (remove cs k)
remove-times m zero [] = refl
remove-times m (suc k) [] = refl
remove-times m zero (c ∷ cs) = refl
remove-times m (suc k) (c ∷ cs) = ap (λ ys. mul m c ∷ ys) (remove-times m k cs)

-- a factor comes out of a bound less a sum
slack_times : (m b w : Number) → add (mul m b) (neg (mul m w)) ≡ mul m (add b (neg w))
slack_times m b w = sym (mul-add m b (neg w) ∙ ap (λ z. add (mul m b) z) (mul-neg m w))

-- what is left of the bound at the values x of the other variables
abbrev slack_of : PlainPoint → ℕ → List Number → Number → Number
slack_of x k cs b = add b (neg (row_value nought (remove cs k) x))

-- and out of the slack of a row
slack-times : (x : PlainPoint) (k : ℕ) (m : Number) (cs : List Number) (b : Number) → slack_of x k (map (λ y. mul m y) cs) (mul m b) ≡ mul m (slack_of x k cs b)
slack-times x k m cs b =
    ap (λ ds. add (mul m b) (neg (row_value nought ds x))) (remove-times m k cs)
    ∙ ap (λ w. add (mul m b) (neg (row_value w (map (λ y. mul m y) (remove cs k)) x))) (sym (mul-nought m))
    ∙ ap (λ w. add (mul m b) (neg w)) (value-scaled m nought (remove cs k) x)
    ∙ slack_times m b (row_value nought (remove cs k) x)

-- ---- the two members of a pair
-- two weak constraints of opposite signs that are met with equality by one value
pub record ArePair (one other : Bar) : Type 0 where
  pub weak_one : one.strict ≡ false
  pub weak_other : other.strict ≡ false
  pub opposed : AreOpposed one.coef other.coef
  pub met : (v : Number) → mul one.coef v ≡ one.slack → mul other.coef v ≡ other.slack

module _ (a : Arithmetic) (k : ℕ) (one other : PlainRow) (x : PlainPoint) (there_one : level_at k one ≡ false) (there_other : level_at k other ≡ false) (weak_one : one.strict ≡ false) (weak_other : other.strict ≡ false)
    (opposite : (is_opposite a one other).value ≡ true) where
  -- two opposite rows are a pair of constraints
  pub are_pair : ArePair (bar_at k x one) (bar_at k x other)
  are_pair =
      let f = lead_size other in
      let g = lead_size one in
      let f_up = size_above (lead other.coefs) (there-varies k other there_other) in
      let g_up = size_above (lead one.coefs) (there-varies k one there_one) in
      let parts = and_parts (agree a neg f g one.coefs other.coefs).value (same_number (mul f one.bound) (neg (mul g other.bound))) opposite in
      let cs : map (λ y. mul f y) one.coefs ≡ map (λ y. mul (neg g) y) other.coefs = agree-same a neg f g one.coefs other.coefs parts.0 ∙ neg_times g other.coefs in
      let bs : mul f one.bound ≡ mul (neg g) other.bound = same_is _ _ parts.1 ∙ sym (neg-mul g other.bound) in
      let c : mul f (coef_at k one) ≡ mul (neg g) (coef_at k other) = sym (get_or-times f one.coefs k) ∙ ap (λ xs. get_or xs k nought) cs ∙ get_or-times (neg g) other.coefs k in
      let s : mul f (slack_of x k one.coefs one.bound) ≡ mul (neg g) (slack_of x k other.coefs other.bound) =
      sym (slack-times x k f one.coefs one.bound) ∙ ap (λ ds. slack_of x k ds (mul f one.bound)) cs ∙ ap (slack_of x k (map (λ y. mul (neg g) y) other.coefs)) bs ∙ slack-times x k (neg g) other.coefs other.bound in
      record {
        weak_one = weak_one;
        weak_other = weak_other;
        opposed = by_bool (lt nought (coef_at k one)) (λ e. opposed_up f g (coef_at k one) (coef_at k other) f_up g_up c e)
            (λ e. by_bool (lt (coef_at k one) nought) (λ h. opposed_down f g (coef_at k one) (coef_at k other) f_up g_up c h)
            (λ h. absurd (clash (sym (rw (h, e) refl) ∙ there_one))));
        met = λ v h. other_met f g (coef_at k one) (coef_at k other) f_up g_up c (slack_of x k one.coefs one.bound) (slack_of x k other.coefs other.bound) v s h;
      }
    where
      clash : true ≡ false → ⊥
      clash e = cc
