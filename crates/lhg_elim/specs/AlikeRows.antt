-- Which tests of rows and which steps of the calculus do not see a positive factor?
use Rattle.std.specs.Prelude.{◌≡◌, ℕ, zero, suc, true, not, cond, ◌||◌, ◌&&◌, List, [], ◌∷◌, map, get_or}
use Rattle.std.proofs.Common.{refl, sym, ap, ◌∙◌}
use Rattle.lhg_math.specs.Number.{Number, add, mul, neg, lt, nought, compare}
use Rattle.lhg_math.specs.NumberRing.{mul_assoc, mul_left_comm, mul-neg, mul-nought, mul-add}
use Rattle.lhg_math.specs.NumberOrder.{lt-mul, mul_positive}
use Rattle.lhg_math.specs.Signs.{size_of, is_nought, same_number, lead}
use Rattle.lhg_math.specs.SignLaws.{lt-nought_scaled, nought_lt-scaled, is_nought-scaled, lead-scaled, size_of-scaled}
use Rattle.lhg_num.specs.Arithmetic.{Arithmetic}
use Rattle.lhg_row.specs.Row.{PlainRow}
use Rattle.lhg_row.specs.Column.{coef_at, upper_at, lower_at, level_at}
use Rattle.lhg_row.specs.Constant.{is_constant, stands_alone, is_true, is_false, is_never}
use Rattle.lhg_row.specs.ValueLaws.{scaled_row}
use Rattle.lhg_row.specs.Trim.{lead_size, agree_at, agree, same_direction, bound_order}
use Rattle.lhg_row.specs.Combine.{entry, entries, comb}
use Rattle.lhg_row.specs.Eliminate.{is_opposite, is_candidate, same_side}

-- ---- numbers
-- a positive factor keeps equality
same-scaled : (k x y : Number) → lt nought k ≡ true → same_number (mul k x) (mul k y) ≡ same_number x y
same-scaled k x y h = rw (lt-mul k x y h, lt-mul k y x h) refl

-- a positive factor keeps the order
compare-scaled : (k x y : Number) → lt nought k ≡ true → compare (mul k x) (mul k y) ≡ compare x y
compare-scaled k x y h = rw (lt-mul k x y h, lt-mul k y x h) refl

-- the factors of two numbers come out of a product, in either order
out_left : (p q f c : Number) → mul (mul q f) (mul p c) ≡ mul (mul p q) (mul f c)
out_left p q f c = simp (mul_assoc, mul_left_comm)

out_right : (p q g d : Number) → mul (mul p g) (mul q d) ≡ mul (mul p q) (mul g d)
out_right p q g d = simp (mul_assoc, mul_left_comm)

-- ---- one row
-- factors one after the other
pub scaled-map : (p q : Number) (xs : List Number) → map (λ x. mul p x) (map (λ x. mul q x) xs) ≡ map (λ x. mul (mul p q) x) xs
scaled-map p q [] = refl
scaled-map p q (x ∷ xs) = ap (λ y. y ∷ map (λ z. mul p z) (map (λ z. mul q z) xs)) (sym (mul_assoc p q x)) ∙ ap (λ ys. mul (mul p q) x ∷ ys) (scaled-map p q xs)

-- factors one after the other are their product
pub scaled_row-scaled : (p q : Number) (r : PlainRow) → scaled_row p (scaled_row q r) ≡ scaled_row (mul p q) r
scaled_row-scaled p q r = λ i. record { coefs = scaled-map p q r.coefs i; strict = r.strict; bound = sym (mul_assoc p q r.bound) i }

module _ (k : Number) (positive : lt nought k ≡ true) where
  -- whether all coefficients are 0
  pub constant-scaled : (r : PlainRow) → is_constant (scaled_row k r) ≡ is_constant r
  constant-scaled r = ap is_nought (lead-scaled k r.coefs positive) ∙ is_nought-scaled k (lead r.coefs) positive

  -- whether the row holds without its coefficients
  alone-scaled : (r : PlainRow) → stands_alone (scaled_row k r) ≡ stands_alone r
  alone-scaled r = rw (nought_lt-scaled k r.bound positive, lt-nought_scaled k r.bound positive) refl

  -- whether it is a true row without a variable
  pub true-scaled : (r : PlainRow) → is_true (scaled_row k r) ≡ is_true r
  true-scaled r = ap (λ b. b && stands_alone (scaled_row k r)) (constant-scaled r) ∙ ap (λ b. is_constant r && b) (alone-scaled r)

  -- whether it is a false one
  pub false-scaled : (r : PlainRow) → is_false (scaled_row k r) ≡ is_false r
  false-scaled r = ap (λ b. b && not (stands_alone (scaled_row k r))) (constant-scaled r) ∙ ap (λ b. is_constant r && not b) (alone-scaled r)

  -- whether it is 0 < 0
  pub never-scaled : (r : PlainRow) → is_never (scaled_row k r) ≡ is_never r
  never-scaled r = ap (λ b. b && (r.strict && is_nought (mul k r.bound))) (constant-scaled r) ∙ ap (λ b. is_constant r && (r.strict && b)) (is_nought-scaled k r.bound positive)

  -- the size of the leading coefficient
  lead_size-scaled : (r : PlainRow) → lead_size (scaled_row k r) ≡ mul k (lead_size r)
  lead_size-scaled r = ap size_of (lead-scaled k r.coefs positive) ∙ size_of-scaled k (lead r.coefs) positive

  -- a coefficient
  pub coef_at-scaled : (i : ℕ) (r : PlainRow) → coef_at i (scaled_row k r) ≡ mul k (coef_at i r)
  coef_at-scaled i r = at r.coefs i
    where
      at : (cs : List Number) (i : ℕ) → get_or (map (λ c. mul k c) cs) i nought ≡ mul k (get_or cs i nought)
      at [] i = sym (mul-nought k)
      at (c ∷ cs) zero = refl
      at (c ∷ cs) (suc i) = at cs i

  -- the side from which it bounds a variable, if it does
  pub upper-scaled : (i : ℕ) (r : PlainRow) → upper_at i (scaled_row k r) ≡ upper_at i r
  upper-scaled i r = ap (lt nought) (coef_at-scaled i r) ∙ nought_lt-scaled k (coef_at i r) positive

  pub lower-scaled : (i : ℕ) (r : PlainRow) → lower_at i (scaled_row k r) ≡ lower_at i r
  lower-scaled i r = ap (λ c. lt c nought) (coef_at-scaled i r) ∙ lt-nought_scaled k (coef_at i r) positive

  pub level-scaled : (i : ℕ) (r : PlainRow) → level_at i (scaled_row k r) ≡ level_at i r
  level-scaled i r = ap is_nought (coef_at-scaled i r) ∙ is_nought-scaled k (coef_at i r) positive

  -- whether it may be of the pair
  pub candidate-scaled : (i : ℕ) (r : PlainRow) → is_candidate i (scaled_row k r) ≡ is_candidate i r
  candidate-scaled i r = ap (λ b. not (r.strict || b)) (level-scaled i r)

  -- the size of a coefficient
  coef_size-scaled : (i : ℕ) (r : PlainRow) → size_of (coef_at i (scaled_row k r)) ≡ mul k (size_of (coef_at i r))
  coef_size-scaled i r = ap size_of (coef_at-scaled i r) ∙ size_of-scaled k (coef_at i r) positive

-- ---- two rows
module _ (a w : Arithmetic) (p q : Number) (p_positive : lt nought p ≡ true) (q_positive : lt nought q ≡ true) where
  -- the product of the factors is positive
  both_positive : lt nought (mul p q) ≡ true
  both_positive = mul_positive p q p_positive q_positive

  module _ (made : Number → Number) (comes_out : (k x : Number) → made (mul k x) ≡ mul k (made x)) where
    -- two products are the same where they are after a factor each
    agree_at-scaled : (f g c d : Number) → (agree_at w made (mul q f) (mul p g) (mul p c) (mul q d)).value ≡ (agree_at a made f g c d).value
    agree_at-scaled f g c d =
        ap (λ x. same_number x (made (mul (mul p g) (mul q d)))) (out_left p q f c) ∙ ap (λ y. same_number (mul (mul p q) (mul f c)) (made y)) (out_right p q g d)
        ∙ ap (same_number (mul (mul p q) (mul f c))) (comes_out (mul p q) (mul g d)) ∙ same-scaled (mul p q) (mul f c) (made (mul g d)) both_positive

    -- and so of each two entries
    agree-scaled : (f g : Number) (cs ds : List Number) → (agree w made (mul q f) (mul p g) (map (λ c. mul p c) cs) (map (λ d. mul q d) ds)).value ≡ (agree a made f g cs ds).value
    agree-scaled f g [] [] = refl
    agree-scaled f g [] (d ∷ ds) = refl
    agree-scaled f g (c ∷ cs) [] = refl
    agree-scaled f g (c ∷ cs) (d ∷ ds) =
        ap (λ b. b && (agree w made (mul q f) (mul p g) (map (λ c. mul p c) cs) (map (λ d. mul q d) ds)).value) (agree_at-scaled f g c d)
        ∙ ap (λ b. (agree_at a made f g c d).value && b) (agree-scaled f g cs ds)

  module _ (r s : PlainRow) where
    -- the factors of the comparison
    factors : {A : Type 0} (t : Number → Number → A) → t (lead_size (scaled_row q s)) (lead_size (scaled_row p r)) ≡ t (mul q (lead_size s)) (mul p (lead_size r))
    factors t = ap (λ f. t f (lead_size (scaled_row p r))) (lead_size-scaled q q_positive s) ∙ ap (λ g. t (mul q (lead_size s)) g) (lead_size-scaled p p_positive r)

    -- whether the rows have one direction
    pub direction-scaled : (same_direction w (scaled_row p r) (scaled_row q s)).value ≡ (same_direction a r s).value
    direction-scaled =
        factors (λ f g. (agree w (λ y. y) f g (map (λ c. mul p c) r.coefs) (map (λ d. mul q d) s.coefs)).value)
        ∙ agree-scaled (λ y. y) (λ k x. refl) (lead_size s) (lead_size r) r.coefs s.coefs

    -- whether they are an equation
    pub opposite-scaled : (is_opposite w (scaled_row p r) (scaled_row q s)).value ≡ (is_opposite a r s).value
    opposite-scaled =
        let out = λ (k x : Number). sym (mul-neg k x) in
        let f = lead_size s in
        let g = lead_size r in
        factors (λ f g. (agree w neg f g (map (λ c. mul p c) r.coefs) (map (λ d. mul q d) s.coefs)).value && (agree_at w neg f g (mul p r.bound) (mul q s.bound)).value)
        ∙ ap (λ b. b && (agree_at w neg (mul q f) (mul p g) (mul p r.bound) (mul q s.bound)).value) (agree-scaled neg out f g r.coefs s.coefs)
        ∙ ap (λ b. (agree a neg f g r.coefs s.coefs).value && b) (agree_at-scaled neg out f g r.bound s.bound)

    -- the order of their bounds
    pub order-scaled : (bound_order w (scaled_row p r) (scaled_row q s)).value ≡ (bound_order a r s).value
    order-scaled =
        factors (λ f g. compare (mul f (mul p r.bound)) (mul g (mul q s.bound)))
        ∙ ap (λ x. compare x (mul (mul p (lead_size r)) (mul q s.bound))) (out_left p q (lead_size s) r.bound) ∙ ap (compare (mul (mul p q) (mul (lead_size s) r.bound))) (out_right p q (lead_size r) s.bound)
        ∙ compare-scaled (mul p q) (mul (lead_size s) r.bound) (mul (lead_size r) s.bound) both_positive

    -- whether they bound a variable from one side
    pub side-scaled : (i : ℕ) → same_side i (scaled_row p r) (scaled_row q s) ≡ same_side i r s
    side-scaled i =
        ap (λ b. cond b (upper_at i (scaled_row q s)) (not (upper_at i (scaled_row q s)))) (upper-scaled p p_positive i r) ∙ ap (λ b. cond (upper_at i r) b (not b)) (upper-scaled q q_positive i s)

  -- the combination of two numbers
  entry-scaled : (f g c d : Number) → (entry w (mul q f) (mul p g) (mul p c) (mul q d)).value ≡ mul (mul p q) (entry a f g c d).value
  entry-scaled f g c d = ap (λ x. add x (mul (mul p g) (mul q d))) (out_left p q f c) ∙ ap (add (mul (mul p q) (mul f c))) (out_right p q g d) ∙ sym (mul-add (mul p q) (mul f c) (mul g d))

  -- and of each two entries
  entries-scaled : (f g : Number) (cs ds : List Number) → (entries w (mul q f) (mul p g) (map (λ c. mul p c) cs) (map (λ d. mul q d) ds)).value ≡ map (λ x. mul (mul p q) x) (entries a f g cs ds).value
  entries-scaled f g [] ds = refl
  entries-scaled f g (c ∷ cs) [] = refl
  entries-scaled f g (c ∷ cs) (d ∷ ds) =
      ap (λ x. x ∷ (entries w (mul q f) (mul p g) (map (λ c. mul p c) cs) (map (λ d. mul q d) ds)).value) (entry-scaled f g c d) ∙ ap (λ xs. mul (mul p q) (entry a f g c d).value ∷ xs) (entries-scaled f g cs ds)

  -- the combination of two rows
  pub comb-scaled : (r s : PlainRow) (i : ℕ) → (comb w (scaled_row p r) (scaled_row q s) i).value ≡ scaled_row (mul p q) (comb a r s i).value
  comb-scaled r s i =
      let f = size_of (coef_at i s) in
      let g = size_of (coef_at i r) in
      let row = λ (f g : Number). let t : PlainRow = record { coefs = (entries w f g (map (λ c. mul p c) r.coefs) (map (λ d. mul q d) s.coefs)).value; strict = r.strict || s.strict; bound = (entry w f g (mul p r.bound) (mul q s.bound)).value } in t in
      let is : row (mul q f) (mul p g) ≡ scaled_row (mul p q) (comb a r s i).value = λ j. record { coefs = entries-scaled f g r.coefs s.coefs j; strict = r.strict || s.strict; bound = entry-scaled f g r.bound s.bound j } in
      ap (λ x. row x (size_of (coef_at i (scaled_row p r)))) (coef_size-scaled q q_positive i s) ∙ ap (row (mul q f)) (coef_size-scaled p p_positive i r) ∙ is
