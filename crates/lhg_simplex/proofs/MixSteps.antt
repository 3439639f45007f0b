-- Steps of the loops that go over multipliers and rows.
use Rattle.std.proofs.Common.{◌≡◌, ℕ, suc, ◌+◌, ◌-◌, ◌<◌, ◌≤◌, List, ◌∷◌, length, map, drop, get_or, Bool, true, false, not, ◌&&◌, ◌||◌, refl, sym, ap, ◌∙◌, subst, arith}
use Rattle.std.proofs.lemmas.List.{drop_all}
use Rattle.std.specs.Prelude.{cond}
use Rattle.std.specs.declared.cmp.Ordering.{Ordering}
use Rattle.std.specs.declared.cmp.Ordering.TheVariants.{Less, Equal, Greater}
use Rattle.lhg_math.specs.Number.{Number, lt, nought, sign_of}
use Rattle.lhg_math.specs.NumberOrder.{lt_asym}
use Rattle.lhg_math.specs.Signs.{is_nought}
use Rattle.lhg_math.specs.Tests.{by_bool}
use Rattle.lhg_num.specs.Arithmetic.{Arithmetic}
use Rattle.lhg_num.specs.Marked.{Marked, valued, IsRest}
use Rattle.lhg_num.specs.MarkedLaws.{IsPart}
use Rattle.lhg_row.specs.Row.{PlainRow}
use Rattle.lhg_row.specs.Piece.{PlainPiece}
use Rattle.lhg_row.specs.Column.{coef_at}
use Rattle.lhg_row.specs.Values.{plus_product, marked_value}
use Rattle.lhg_math.specs.ListFacts.{drop_cons, drop-map_cons}
use Rattle.lhg_num.specs.PartLaws.{rest_step, step_part}
use Rattle.lhg_simplex.specs.Mixed.{is_false_bound, none_negative, mixes_strict, marked_mixed, marked_vanish}

-- ---- signs of multipliers
module _ {N : Type 0} (m : N → Number) (xs : List N) (i : ℕ) (x : N) (x_is : x ≡ get_or xs i x) (in_xs : i < length xs) where
  -- a negative multiplier decides
  pub negative-found : lt (m x) nought ≡ true → false ≡ none_negative (drop i (map m xs))
  negative-found h = ap (λ b. not b && none_negative (drop (i + 1) (map m xs))) (sym h) ∙ sym (ap none_negative (drop-map_cons m xs i x x_is in_xs))

  -- one that is not leaves the others
  pub negative-passed : lt (m x) nought ≡ false → none_negative (drop (i + 1) (map m xs)) ≡ none_negative (drop i (map m xs))
  negative-passed h = ap (λ b. not b && none_negative (drop (i + 1) (map m xs))) (sym h) ∙ sym (ap none_negative (drop-map_cons m xs i x x_is in_xs))

-- ---- strict rows
module _ {N : Type 0} (m : N → Number) (xs : List N) (rows : PlainPiece) (i : ℕ) (x : N) (r : PlainRow) (x_is : x ≡ get_or xs i x) (r_is : r ≡ get_or rows i r) (in_xs : i < length xs) (in_rows : i < length rows) where
  strict-here : mixes_strict (drop i (map m xs)) (drop i rows) ≡ (r.strict && not (is_nought (m x)) || mixes_strict (drop (i + 1) (map m xs)) (drop (i + 1) rows))
  strict-here = ap (λ ys. mixes_strict ys (drop i rows)) (drop-map_cons m xs i x x_is in_xs) ∙ ap (mixes_strict (m x ∷ drop (i + 1) (map m xs))) (drop_cons rows i r r_is in_rows)

  -- a strict row with a multiplier other than 0 decides
  pub strict-found : (r.strict && not (is_nought (m x))) ≡ true → true ≡ mixes_strict (drop i (map m xs)) (drop i rows)
  strict-found h = sym (strict-here ∙ ap (λ b. b || mixes_strict (drop (i + 1) (map m xs)) (drop (i + 1) rows)) h)

  -- another leaves those that follow
  pub strict-passed : (r.strict && not (is_nought (m x))) ≡ false → mixes_strict (drop (i + 1) (map m xs)) (drop (i + 1) rows) ≡ mixes_strict (drop i (map m xs)) (drop i rows)
  strict-passed h = sym (strict-here ∙ ap (λ b. b || mixes_strict (drop (i + 1) (map m xs)) (drop (i + 1) rows)) h)

-- at the end no row is left
pub strict-end : (ms : List Number) (rows : PlainPiece) (i : ℕ) → length ms ≤ i → mixes_strict (drop i ms) (drop i rows) ≡ false
strict-end ms rows i h = ap (λ ys. mixes_strict ys (drop i rows)) (drop_all i ms h)

-- ---- sums
-- whether the bound of a row without coefficients makes it false, by its sign
abbrev pub told : Bool → Ordering → Bool
told strict Less = true
told strict Equal = strict
told strict Greater = false

-- the sign tells
pub told-sign : (strict : Bool) (b : Number) (o : Ordering) → o ≡ sign_of b → told strict o ≡ is_false_bound strict b
told-sign strict b o e = ap (told strict) e ∙ by_bool (lt b nought)
    (λ h. rw (h, lt_asym b nought h) (less strict))
    (λ h. by_bool (lt nought b) (λ k. rw (h, k) (greater strict)) (λ k. rw (h, k) (equal strict)))
  where
    less : (s : Bool) → true ≡ not (cond s false false)
    less true = refl
    less false = refl

    greater : (s : Bool) → false ≡ not (cond s true true)
    greater true = refl
    greater false = refl

    equal : (s : Bool) → s ≡ not (cond s false true)
    equal true = refl
    equal false = refl

module _ {N : Type 0} (m : N → Number) (entry : PlainRow → Number) (a : Arithmetic) (s : N) (xs : List N) (rows : PlainPiece) (i : ℕ) (x : N) (r : PlainRow)
    (x_is : x ≡ get_or xs i x) (r_is : r ≡ get_or rows i r) (in_xs : i < length xs) (in_rows : i < length rows)
    (whole : Marked Number) (left : IsRest whole (marked_value a (m s) (drop i (map m xs)) (drop i (map entry rows)))) where
  sum-here : IsRest whole (marked_value a (m s) (m x ∷ drop (i + 1) (map m xs)) (entry r ∷ drop (i + 1) (map entry rows)))
  sum-here =
      subst (λ ys. IsRest whole (marked_value a (m s) (m x ∷ drop (i + 1) (map m xs)) ys)) (drop-map_cons entry rows i r r_is in_rows)
      (subst (λ ys. IsRest whole (marked_value a (m s) ys (drop i (map entry rows)))) (drop-map_cons m xs i x x_is in_xs) left)

  -- one product more
  pub sum-step : (y t : N) → m y ≡ entry r → m t ≡ (plus_product a (m s) (m x) (m y)).value → IsRest whole (marked_value a (m t) (drop (i + 1) (map m xs)) (drop (i + 1) (map entry rows)))
  sum-step y t is e =
      rest_step whole (plus_product a (m s) (m x) (entry r)) (λ u. marked_value a u (drop (i + 1) (map m xs)) (drop (i + 1) (map entry rows))) (m t) sum-here (e ∙ ap (λ w. (plus_product a (m s) (m x) w).value) is)

  -- its marks are among those of the whole
  pub sum-part : (y : N) → m y ≡ entry r → IsPart whole (plus_product a (m s) (m x) (m y))
  sum-part y is =
      subst (λ w. IsPart whole (plus_product a (m s) (m x) w)) (sym is)
      (step_part whole (plus_product a (m s) (m x) (entry r)) (λ u. marked_value a u (drop (i + 1) (map m xs)) (drop (i + 1) (map entry rows))) sum-here)

-- at the end the sum is whole
pub sum-end : (a : Arithmetic) (s : Number) (ms xs : List Number) (i : ℕ) (whole : Marked Number) → length ms ≤ i → IsRest whole (marked_value a s (drop i ms) (drop i xs)) → s ≡ whole.value
sum-end a s ms xs i whole h r = sym (ap (λ ys. (marked_value a s ys (drop i xs)).value) (drop_all i ms h)) ∙ r.same

-- ---- coefficients
module _ (a : Arithmetic) (n k : ℕ) (ms : List Number) (rows : PlainPiece) (there : k < n) (whole : Marked Bool) (left : IsRest whole (marked_vanish a k (n - k) ms rows)) where
  vanish-here : IsRest whole (marked_vanish a k (suc (n - (k + 1))) ms rows)
  vanish-here = let e : n - k ≡ suc (n - (k + 1)) = omega arith in subst (λ c. IsRest whole (marked_vanish a k c ms rows)) e left

  -- the marks of the next sum
  pub vanish-part : IsPart whole (marked_mixed a (coef_at k) ms rows)
  vanish-part = step_part whole (marked_mixed a (coef_at k) ms rows) (λ s. valued (λ c. is_nought s && c) (marked_vanish a (suc k) (n - (k + 1)) ms rows)) vanish-here

  module _ (s : Number) (s_is : s ≡ (marked_mixed a (coef_at k) ms rows).value) where
    vanish-next : IsRest whole (valued (λ c. is_nought s && c) (marked_vanish a (suc k) (n - (k + 1)) ms rows))
    vanish-next = rest_step whole (marked_mixed a (coef_at k) ms rows) (λ t. valued (λ c. is_nought t && c) (marked_vanish a (suc k) (n - (k + 1)) ms rows)) s vanish-here s_is

    -- a coefficient other than 0 decides
    pub vanish-stop : is_nought s ≡ false → false ≡ whole.value
    vanish-stop h = ap (λ b. b && (marked_vanish a (suc k) (n - (k + 1)) ms rows).value) (sym h) ∙ vanish-next.same

    -- after one that is 0 the others are left
    pub vanish-on : is_nought s ≡ true → IsRest whole (marked_vanish a (k + 1) (n - (k + 1)) ms rows)
    vanish-on h =
        let e : suc k ≡ k + 1 = omega arith in
        subst (λ j. IsRest whole (marked_vanish a j (n - (k + 1)) ms rows)) e (subst (λ b. IsRest whole (valued (λ c. b && c) (marked_vanish a (suc k) (n - (k + 1)) ms rows))) h vanish-next)

-- at the end all are 0
pub vanish-end : (a : Arithmetic) (n k : ℕ) (ms : List Number) (rows : PlainPiece) (whole : Marked Bool) → n ≤ k → IsRest whole (marked_vanish a k (n - k) ms rows) → true ≡ whole.value
vanish-end a n k ms rows whole h r = let e : n - k ≡ 0 = omega arith in (subst (λ c. IsRest whole (marked_vanish a k c ms rows)) e r).same
