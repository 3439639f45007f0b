-- What are the scaled rows of one variable, and how many bound it from one side?
use Rattle.std.specs.Prelude.{◌≡◌, ℕ, zero, suc, Bool, true, false, not, ◌&&◌, List, [], ◌∷◌, ◌++◌, length, map, get_or, Option, Some, None}
use Rattle.std.proofs.Common.{refl, sym, ap, ◌∙◌, arith, subst}
use Rattle.std.proofs.lemmas.List.{map-append}
use Rattle.lhg_math.specs.Number.{Number, mul, neg, lt, nought, unit, inverse, quot}
use Rattle.lhg_math.specs.NumberRing.{mul_comm, mul-nought, neg_neg}
use Rattle.lhg_math.specs.NumberOrder.{lt_asym, lt-mul, nought_unit}
use Rattle.lhg_math.specs.Quotients.{mul-inverse, abs_pos_of_lt, quot-is}
use Rattle.lhg_math.specs.Signs.{is_nought, lead, size_of, same_number}
use Rattle.lhg_math.specs.SignLaws.{nought_is, is_nought-positive, size_above, lead-scaled, size_of-scaled, same_number-self}
use Rattle.lhg_math.specs.Tests.{AllOf, all_of, by_bool, false_true}
use Rattle.lhg_num.specs.Arithmetic.{scaled}
use Rattle.lhg_num.specs.FracArithmetic.{frac_arithmetic}
use Rattle.lhg_num.specs.FracCanon.{canon_frac}
use Rattle.lhg_row.specs.Row.{PlainRow}
use Rattle.lhg_row.specs.Piece.{PlainPiece}
use Rattle.lhg_row.specs.Trim.{IsScaled, IsAway, agree, same_direction, entries_of, row_of, canon}
use Rattle.lhg_row.specs.TrimLaws.{row_of-end}
use Rattle.lhg_row.specs.Column.{coef_at, lower_at, upper_at}
use Rattle.lhg_simplex.specs.Boxes.{is_single, first_row}
use Rattle.lhg_simplex.proofs.Singles.{no_zero, single_lead, single_same}

-- ---- scaled rows
all_held : (xs : List Number) → all_of (λ x. true) xs ≡ true
all_held [] = refl
all_held (x ∷ xs) = all_held xs

map-quot : (s : Number) (xs : List Number) → map (λ x. quot x s) xs ≡ map (λ x. mul (inverse s) x) xs
map-quot s [] = refl
map-quot s (x ∷ xs) = ap (λ y. y ∷ map (λ z. quot z s) xs) (quot-is x s ∙ mul_comm x (inverse s)) ∙ ap (λ ys. mul (inverse s) x ∷ ys) (map-quot s xs)

inverse_positive : (x : Number) → lt nought x ≡ true → lt nought (inverse x) ≡ true
inverse_positive x h = sym (lt-mul x nought (inverse x) h) ∙ ap (λ w. lt w (mul x (inverse x))) (mul-nought x) ∙ ap (λ w. lt nought w) (mul-inverse x (abs_pos_of_lt x h)) ∙ nought_unit

lead-more : (xs ys : List Number) → is_nought (lead xs) ≡ false → lead (xs ++ ys) ≡ lead xs
lead-more [] ys h = no_zero nought refl h
lead-more (x ∷ xs) ys h = by_bool (is_nought x) (λ e. let t : is_nought (lead xs) ≡ false = rw e at h in rw e (lead-more xs ys t)) (λ e. rw e refl)

-- the leading coefficient of a scaled row is 1 or -1
pub unit_size : (r : PlainRow) → IsScaled frac_arithmetic r → is_nought (lead r.coefs) ≡ false → size_of (lead r.coefs) ≡ unit
unit_size r h e =
    let es = entries_of r in
    let s = size_of (lead r.coefs) in
    let first : lead es ≡ lead r.coefs = lead-more r.coefs (r.bound ∷ []) e in
    let some : is_nought (lead es) ≡ false = ap is_nought first ∙ e in
    let one : scaled frac_arithmetic es ≡ canon_frac es = rw (all_held es) refl in
    let two : canon_frac es ≡ map (λ x. quot x (size_of (lead es))) es = rw some refl in
    let three : map (λ x. quot x (size_of (lead es))) es ≡ map (λ x. mul (inverse s) x) es = ap (λ w. map (λ x. quot x (size_of w)) es) first ∙ map-quot s es in
    let four : map (λ x. mul (inverse s) x) es ≡ map (λ x. mul (inverse s) x) r.coefs ++ mul (inverse s) r.bound ∷ [] = map-append (λ x. mul (inverse s) x) r.coefs (r.bound ∷ []) in
    let is : (canon frac_arithmetic r).value ≡ row_of r.strict (scaled frac_arithmetic es) = rw e refl in
    let same : map (λ x. mul (inverse s) x) r.coefs ≡ r.coefs =
    ap (λ (q : PlainRow). q.coefs) (sym (row_of-end r.strict (map (λ x. mul (inverse s) x) r.coefs) (mul (inverse s) r.bound)) ∙ ap (row_of r.strict) (sym (one ∙ two ∙ three ∙ four)) ∙ sym is ∙ h) in
    let above = size_above (lead r.coefs) e in
    let i = inverse_positive s above in
    ap (λ cs. size_of (lead cs)) (sym same) ∙ ap size_of (lead-scaled (inverse s) r.coefs i) ∙ size_of-scaled (inverse s) (lead r.coefs) i ∙ mul_comm (inverse s) s ∙ mul-inverse s (abs_pos_of_lt s above)

-- ---- rows of one variable
-- a row over n variables with one coefficient, which is 1 or -1
pub record IsEdge (n : ℕ) (r : PlainRow) : Type 0 where
  pub wide : length r.coefs ≡ n
  pub single : is_single r.coefs ≡ true
  pub size : size_of (lead r.coefs) ≡ unit

-- the coefficient of a row that bounds a variable from below
module _ (n k : ℕ) (r : PlainRow) (edge : IsEdge n r) where
  pub below_some : lower_at k r ≡ true → is_nought (coef_at k r) ≡ false
  below_some h = rw h refl

  pub above_some : upper_at k r ≡ true → is_nought (coef_at k r) ≡ false
  above_some h = is_nought-positive (coef_at k r) h

  size_here : is_nought (coef_at k r) ≡ false → size_of (coef_at k r) ≡ unit
  size_here i = ap size_of (sym (single_lead k r.coefs edge.single i)) ∙ edge.size

  pub below_is : lower_at k r ≡ true → coef_at k r ≡ neg unit
  below_is h =
      let c = coef_at k r in
      let s : size_of c ≡ neg c = rw h refl in
      sym (neg_neg c) ∙ ap neg (sym s ∙ size_here (below_some h))

  pub above_is : upper_at k r ≡ true → coef_at k r ≡ unit
  above_is h =
      let c = coef_at k r in
      let low = lt_asym nought c h in
      let s : size_of c ≡ c = rw low refl in
      sym s ∙ size_here (above_some h)

-- ---- one row of each direction
agree-equal : (f : Number) (cs ds : List Number) → length cs ≡ length ds → ((j : ℕ) → get_or cs j nought ≡ get_or ds j nought) → (agree frac_arithmetic (λ y. y) f f cs ds).value ≡ true
agree-equal f [] [] e h = refl
agree-equal f [] (d ∷ ds) e h = absurd (omega arith)
agree-equal f (c ∷ cs) [] e h = absurd (omega arith)
agree-equal f (c ∷ cs) (d ∷ ds) e h =
    let head : c ≡ d = h zero in
    let t = agree-equal f cs ds (omega arith) (λ j. h (suc j)) in
    ap (λ w. same_number (mul f w) (mul f d) && (agree frac_arithmetic (λ y. y) f f cs ds).value) head ∙ rw (same_number-self (mul f d), t) refl

-- two rows with the same coefficient of one variable have one direction
same_edges : (n k : ℕ) (r s : PlainRow) → IsEdge n r → IsEdge n s → is_nought (coef_at k r) ≡ false → coef_at k r ≡ coef_at k s → (same_direction frac_arithmetic s r).value ≡ true
same_edges n k r s a b i e =
    let l : is_nought (coef_at k s) ≡ false = ap is_nought (sym e) ∙ i in
    let each = λ (j : ℕ).
    by_bool (is_nought (coef_at j s))
    (λ p. by_bool (is_nought (coef_at j r))
    (λ q. nought_is (coef_at j s) p ∙ sym (nought_is (coef_at j r) q))
    (λ q. no_zero (coef_at j s) (nought_is (coef_at j s) p) (subst (λ m. is_nought (coef_at m s) ≡ false) (sym (single_same j k r.coefs a.single q i)) l)))
    (λ p. subst (λ m. coef_at m s ≡ coef_at m r) (sym (single_same j k s.coefs b.single p l)) (sym e)) in
    ap (λ f. (agree frac_arithmetic (λ y. y) f (size_of (lead s.coefs)) s.coefs r.coefs).value) (a.size ∙ sym b.size) ∙ agree-equal (size_of (lead s.coefs)) s.coefs r.coefs (b.wide ∙ sym a.wide) each

-- no later row has the coefficient
none_later : (n k : ℕ) (r : PlainRow) (f : PlainRow → Bool) → IsEdge n r → is_nought (coef_at k r) ≡ false → ((s : PlainRow) → IsEdge n s → f s ≡ true → coef_at k r ≡ coef_at k s)
    → (rows : PlainPiece) → AllOf (IsEdge n) rows → IsAway frac_arithmetic r rows → first_row f rows ≡ None
none_later n k r f a i h [] w p = refl
none_later n k r f a i h (s ∷ rows) w p =
    by_bool (f s)
    (λ e. let t = same_edges n k r s a w.0 i (h s w.0 e) in let z : true ≡ false = sym (sym (ap not t) ∙ p.0) in false_true (sym z))
    (λ e. rw e (none_later n k r f a i h rows w.1 p.1))

pub no_lower : (n k : ℕ) (r : PlainRow) (rows : PlainPiece) → IsEdge n r → AllOf (IsEdge n) rows → IsAway frac_arithmetic r rows → lower_at k r ≡ true → first_row (lower_at k) rows ≡ None
no_lower n k r rows a w p h = none_later n k r (lower_at k) a (below_some n k r a h) (λ s b e. below_is n k r a h ∙ sym (below_is n k s b e)) rows w p

pub no_upper : (n k : ℕ) (r : PlainRow) (rows : PlainPiece) → IsEdge n r → AllOf (IsEdge n) rows → IsAway frac_arithmetic r rows → upper_at k r ≡ true → first_row (upper_at k) rows ≡ None
no_upper n k r rows a w p h = none_later n k r (upper_at k) a (above_some n k r a h) (λ s b e. above_is n k r a h ∙ sym (above_is n k s b e)) rows w p

-- none is not some
abbrev pub given : {A : Type 0} → Option A → Bool
given None = true
given (Some x) = false

pub none_some : {A P : Type 0} (x : A) → None ≡ Some x → P
none_some x e = false_true (sym (ap given e))

abbrev row_in : PlainRow → Option PlainRow → PlainRow
row_in d None = d
row_in d (Some q) = q

-- what is known of the first row
pub record IsFirst (P : PlainRow → Type 0) (f : PlainRow → Bool) (r : PlainRow) : Type 0 where
  pub known : P r
  pub passes : f r ≡ true

pub first_is : (P : PlainRow → Type 0) (f : PlainRow → Bool) (rows : PlainPiece) (r : PlainRow) → AllOf P rows → first_row f rows ≡ Some r → IsFirst P f r
first_is P f [] r w e = none_some r e
first_is P f (s ∷ rows) r w e =
    by_bool (f s)
    (λ h. let t : Some s ≡ Some r = rw h at e in let is : s ≡ r = ap (λ o. row_in s o) t in subst (IsFirst P f) is (record { known = w.0; passes = h }))
    (λ h. first_is P f rows r w.1 (rw h at e))
