-- Which rows refute a system where the bounds of some variable leave it no value?
use Rattle.std.specs.Prelude.{◌≡◌, ℕ, zero, suc, Bool, true, false, not, cond, ◌&&◌, ◌||◌, [], ◌∷◌, length, map, nat_eq, Option, Some, None, option_map}
use Rattle.std.proofs.Common.{refl, sym, ap, ◌∙◌, subst}
use Rattle.std.proofs.lemmas.Bool.{eq-eqb}
use Rattle.std.proofs.lemmas.List.{length-map}
use Rattle.lhg_math.specs.Number.{Number, add, mul, neg, lt, nought, unit, compare}
use Rattle.lhg_math.specs.NumberRing.{add_comm, add_assoc, add-nought, nought-add, nought-mul, neg-add_cancel, neg_neg}
use Rattle.lhg_math.specs.NumberOrder.{lt_asym, lt_irrefl, nought_unit, lt-difference, difference-lt}
use Rattle.lhg_math.specs.Signs.{is_nought}
use Rattle.lhg_math.specs.SignLaws.{nought_is, is_nought-nought, is_nought-positive}
use Rattle.lhg_math.specs.Bounds.{Bound}
use Rattle.lhg_math.specs.Tests.{AllOf, by_bool}
use Rattle.lhg_num.specs.FracArithmetic.{frac_arithmetic}
use Rattle.lhg_num.specs.Marked.{done, valued}
use Rattle.lhg_row.specs.Row.{PlainRow, row_value}
use Rattle.lhg_row.specs.Piece.{PlainPiece}
use Rattle.lhg_row.specs.Trim.{AreApart}
use Rattle.lhg_row.specs.ValueLaws.{fits_order-compare}
use Rattle.lhg_row.specs.Values.{fits_order}
use Rattle.lhg_row.specs.Column.{coef_at, lower_at, upper_at, level_at}
use Rattle.lhg_row.specs.Sample.{chosen}
use Rattle.lhg_simplex.specs.Mixed.{bound_of, mixed, mixes_strict, none_negative, vanish, is_false_bound, refutes}
use Rattle.lhg_simplex.specs.Boxes.{first_row, lower_bound, upper_bound, box_value, value_in, weight, picked}
use Rattle.lhg_math.specs.InterpolateLaws.{unit-mul}
use Rattle.lhg_simplex.proofs.Singles.{no_zero, single_same}
use Rattle.lhg_simplex.proofs.Edges.{IsEdge, IsFirst, above_is, above_some, below_is, below_some, first_is, no_lower, no_upper, none_some}

-- ---- the sum of the rows of one variable
-- an entry, and 0 where there is no row
abbrev entry_of : (PlainRow → Number) → Option PlainRow → Number
entry_of entry None = nought
entry_of entry (Some r) = entry r

abbrev strict_of : Option PlainRow → Bool
strict_of None = false
strict_of (Some r) = r.strict

sum_low : (s e u : Number) → add (add s (mul unit e)) (add nought u) ≡ add s (add e u)
sum_low s e u = ap (λ w. add (add s w) (add nought u)) (unit-mul e) ∙ ap (λ w. add (add s e) w) (nought-add u) ∙ add_assoc s e u

sum_up : (s e l : Number) → add (add s (mul unit e)) (add l nought) ≡ add s (add l e)
sum_up s e l = ap (λ w. add (add s w) (add l nought)) (unit-mul e) ∙ ap (λ w. add (add s e) w) (add-nought l) ∙ add_assoc s e l ∙ ap (λ w. add s w) (add_comm e l)

no_term : (s e : Number) → add s (mul nought e) ≡ s
no_term s e = ap (λ w. add s w) (nought-mul e) ∙ add-nought s

-- neither below nor above
pub level_is : (c : Number) → lt c nought ≡ false → lt nought c ≡ false → is_nought c ≡ true
level_is c h i = rw (h, i) refl

module _ (n k : ℕ) where
  -- the sum has the entries of the lower row and of the upper one
  picked-sum : (entry : PlainRow → Number) (s : Number) (rows : PlainPiece) → AllOf (IsEdge n) rows → AreApart frac_arithmetic rows
      → row_value s (picked k rows) (map entry rows) ≡ add s (add (entry_of entry (first_row (lower_at k) rows)) (entry_of entry (first_row (upper_at k) rows)))
  picked-sum entry s [] w p = sym (ap (λ v. add s v) (add-nought nought) ∙ add-nought s)
  picked-sum entry s (r ∷ rows) w p =
      let low = first_row (lower_at k) rows in
      let up = first_row (upper_at k) rows in
      by_bool (lower_at k r)
      (λ e.
      let f = lt_asym (coef_at k r) nought e in
      let none = no_lower n k r rows w.0 w.1 p.0 e in
      rw (e, f) (picked-sum entry (add s (mul unit (entry r))) rows w.1 p.1 ∙ ap (λ o. add (add s (mul unit (entry r))) (add (entry_of entry o) (entry_of entry up))) none ∙ sum_low s (entry r) (entry_of entry up)))
      (λ e. by_bool (upper_at k r)
      (λ f.
      let none = no_upper n k r rows w.0 w.1 p.0 f in
      rw (e, f) (picked-sum entry (add s (mul unit (entry r))) rows w.1 p.1 ∙ ap (λ o. add (add s (mul unit (entry r))) (add (entry_of entry low) (entry_of entry o))) none ∙ sum_up s (entry r) (entry_of entry low)))
      (λ f. rw (e, f) (ap (λ v. row_value v (picked k rows) (map entry rows)) (no_term s (entry r)) ∙ picked-sum entry s rows w.1 p.1)))

  -- it is strict where one of the two is
  picked-strict : (rows : PlainPiece) → AllOf (IsEdge n) rows → AreApart frac_arithmetic rows
      → mixes_strict (picked k rows) rows ≡ (strict_of (first_row (lower_at k) rows) || strict_of (first_row (upper_at k) rows))
  picked-strict [] w p = refl
  picked-strict (r ∷ rows) w p =
      let low = first_row (lower_at k) rows in
      let up = first_row (upper_at k) rows in
      by_bool (lower_at k r)
      (λ e.
      let f = lt_asym (coef_at k r) nought e in
      let none = no_lower n k r rows w.0 w.1 p.0 e in
      rw (e, f) (ap (λ b. (r.strict && not (is_nought unit)) || b) (picked-strict rows w.1 p.1 ∙ ap (λ o. strict_of o || strict_of up) none) ∙ one_row r.strict (strict_of up)))
      (λ e. by_bool (upper_at k r)
      (λ f.
      let none = no_upper n k r rows w.0 w.1 p.0 f in
      rw (e, f) (ap (λ b. (r.strict && not (is_nought unit)) || b) (picked-strict rows w.1 p.1 ∙ ap (λ o. strict_of low || strict_of o) none) ∙ other_row r.strict (strict_of low)))
      (λ f. rw (e, f) (no_row r.strict (mixes_strict (picked k rows) rows) ∙ picked-strict rows w.1 p.1)))
    where
      some_unit : is_nought unit ≡ false
      some_unit = is_nought-positive unit nought_unit

      one_row : (a b : Bool) → ((a && not (is_nought unit)) || (false || b)) ≡ (a || b)
      one_row true b = rw some_unit refl
      one_row false b = refl

      other_row : (a b : Bool) → ((a && not (is_nought unit)) || (b || false)) ≡ (b || a)
      other_row true true = rw some_unit refl
      other_row true false = rw some_unit refl
      other_row false true = refl
      other_row false false = refl

      no_row : (a b : Bool) → ((a && not (is_nought nought)) || b) ≡ b
      no_row true b = rw is_nought-nought refl
      no_row false b = refl

  -- no multiplier is negative
  picked-positive : (rows : PlainPiece) → none_negative (picked k rows) ≡ true
  picked-positive [] = refl
  picked-positive (r ∷ rows) =
      by_bool (level_at k r)
      (λ e. rw (e, lt_irrefl nought) (picked-positive rows))
      (λ e. rw (e, lt_asym nought unit nought_unit) (picked-positive rows))

  -- ---- two bounds that leave no value
  opposite : (l u : PlainRow) → IsFirst (IsEdge n) (lower_at k) l → IsFirst (IsEdge n) (upper_at k) u → (j : ℕ) → add (coef_at j l) (coef_at j u) ≡ nought
  opposite l u a b j =
      let i = below_some n k l a.known a.passes in
      let m = above_some n k u b.known b.passes in
      by_bool (is_nought (coef_at j l))
      (λ p. by_bool (is_nought (coef_at j u))
      (λ q. ap (λ w. add w (coef_at j u)) (nought_is (coef_at j l) p) ∙ ap (λ w. add nought w) (nought_is (coef_at j u) q) ∙ add-nought nought)
      (λ q. no_zero (coef_at j l) (nought_is (coef_at j l) p) (subst (λ t. is_nought (coef_at t l) ≡ false) (sym (single_same j k u.coefs b.known.single q m)) i)))
      (λ p. subst (λ t. add (coef_at t l) (coef_at t u) ≡ nought) (sym (single_same j k l.coefs a.known.single p i))
      (ap (λ w. add w (coef_at k u)) (below_is n k l a.known a.passes) ∙ ap (λ w. add (neg unit) w) (above_is n k u b.known b.passes) ∙ neg-add_cancel unit))

  module _ (rows : PlainPiece) (w : AllOf (IsEdge n) rows) (p : AreApart frac_arithmetic rows) where
    -- the sum where both bounds are there
    both-sum : (l u : PlainRow) → first_row (lower_at k) rows ≡ Some l → first_row (upper_at k) rows ≡ Some u → (entry : PlainRow → Number)
        → mixed entry (picked k rows) rows ≡ add nought (add (entry l) (entry u))
    both-sum l u el eu entry =
        picked-sum entry nought rows w p
        ∙ ap (λ o. add nought (add (entry_of entry o) (entry_of entry (first_row (upper_at k) rows)))) el
        ∙ ap (λ o. add nought (add (entry l) (entry_of entry o))) eu

    picked-vanish : (l u : PlainRow) → first_row (lower_at k) rows ≡ Some l → first_row (upper_at k) rows ≡ Some u → (j count : ℕ) → vanish j count (picked k rows) rows ≡ true
    picked-vanish l u el eu j zero = refl
    picked-vanish l u el eu j (suc count) =
        let a = first_is (IsEdge n) (lower_at k) rows l w el in
        let b = first_is (IsEdge n) (upper_at k) rows u w eu in
        let column : mixed (coef_at j) (picked k rows) rows ≡ nought = both-sum l u el eu (coef_at j) ∙ ap (λ v. add nought v) (opposite l u a b j) ∙ add-nought nought in
        ap (λ v. is_nought v && vanish (suc j) count (picked k rows) rows) column ∙ rw (is_nought-nought) (picked-vanish l u el eu (suc j) count)

    refuted-by : (lo up : Option PlainRow) → first_row (lower_at k) rows ≡ lo → first_row (upper_at k) rows ≡ up → (box_value (option_map lower_bound lo) (option_map upper_bound up)).value ≡ None
        → refutes n rows (picked k rows) ≡ true
    refuted-by None up el eu h = none_some (chosen None (option_map upper_bound up)).value (sym h)
    refuted-by (Some l) None el eu h = none_some (chosen (Some (lower_bound l)) None).value (sym h)
    refuted-by (Some l) (Some u) el eu h =
        let many : nat_eq (length (picked k rows)) (length rows) ≡ true = eq-eqb (length (picked k rows)) (length rows) (length-map rows (weight k)) in
        let strict : mixes_strict (picked k rows) rows ≡ (l.strict || u.strict) =
        picked-strict rows w p ∙ ap (λ o. strict_of o || strict_of (first_row (upper_at k) rows)) el ∙ ap (λ o. l.strict || strict_of o) eu in
        let tail : is_false_bound (mixes_strict (picked k rows) rows) (mixed bound_of (picked k rows) rows) ≡ true =
        ap (λ b. is_false_bound b (mixed bound_of (picked k rows) rows)) strict ∙ ap (λ b. is_false_bound (l.strict || u.strict) b) (both-sum l u el eu bound_of) ∙ false-bound l u (no-fit (lower_bound l) (upper_bound u) h) in
        ap (λ b. b && (none_negative (picked k rows) && (vanish 0 n (picked k rows) rows && is_false_bound (mixes_strict (picked k rows) rows) (mixed bound_of (picked k rows) rows)))) many
        ∙ ap (λ b. b && (vanish 0 n (picked k rows) rows && is_false_bound (mixes_strict (picked k rows) rows) (mixed bound_of (picked k rows) rows))) (picked-positive rows)
        ∙ ap (λ b. b && is_false_bound (mixes_strict (picked k rows) rows) (mixed bound_of (picked k rows) rows)) (picked-vanish l u el eu 0 n)
        ∙ tail
      where
        no-fit : (l u : Bound) → (box_value (Some l) (Some u)).value ≡ None → fits_order (l.strict || u.strict) (compare l.at u.at) ≡ false
        no-fit l u h =
            by_bool (fits_order (l.strict || u.strict) (compare l.at u.at))
            (λ e. none_some (chosen (Some l) (Some u)).value (sym (sym (ap (λ b. (cond b (valued (λ v. Some v) (chosen (Some l) (Some u))) (done None)).value) e) ∙ h)))
            (λ e. e)

        false-bound : (l u : PlainRow) → fits_order (l.strict || u.strict) (compare (neg l.bound) u.bound) ≡ false → is_false_bound (l.strict || u.strict) (add nought (add l.bound u.bound)) ≡ true
        false-bound l u h =
            let s = l.strict || u.strict in
            let a = neg l.bound in
            let b = u.bound in
            let e : cond s (lt a b) (not (lt b a)) ≡ false = sym (fits_order-compare s a b) ∙ h in
            let total : add nought (add l.bound u.bound) ≡ add b (neg a) = nought-add (add l.bound u.bound) ∙ add_comm l.bound u.bound ∙ ap (λ v. add u.bound v) (sym (neg_neg l.bound)) in
            ap (λ t. is_false_bound s t) total ∙ ap (λ v. not (cond s v (not (lt (add b (neg a)) nought)))) (lt-difference a b) ∙ ap (λ v. not (cond s (lt a b) (not v))) (difference-lt a b) ∙ ap not e

    pub refuted : (value_in k rows).value ≡ None → refutes n rows (picked k rows) ≡ true
    refuted h = refuted-by (first_row (lower_at k) rows) (first_row (upper_at k) rows) refl refl h
