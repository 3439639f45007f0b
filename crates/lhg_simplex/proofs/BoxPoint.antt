-- When do values within the bounds of their variables make a point of the rows?
use Rattle.std.specs.Prelude.{◌≡◌, ◌<◌, ℕ, Bool, true, false, not, cond, ◌&&◌, ◌||◌, [], ◌∷◌, length, get_or, Option, Some, None, option_map}
use Rattle.std.proofs.Common.{refl, sym, ap, ◌∙◌, subst}
use Rattle.lhg_math.specs.Number.{Number, add, sub, mul, neg, lt, nought, unit, mid, compare}
use Rattle.lhg_math.specs.NumberRing.{nought-add, neg-mul, neg_neg}
use Rattle.lhg_math.specs.NumberOrder.{lt-neg}
use Rattle.lhg_math.specs.Signs.{is_nought}
use Rattle.lhg_math.specs.SignLaws.{nought_is}
use Rattle.lhg_math.specs.Bounds.{Bound, fits, over, under, one_more, one_less, over_from_lt, under_from_lt, mid_fits}
use Rattle.lhg_math.specs.Tests.{AllOf, by_bool}
use Rattle.lhg_num.specs.FracArithmetic.{frac_arithmetic}
use Rattle.lhg_num.specs.Marked.{done, valued}
use Rattle.lhg_row.specs.Row.{PlainRow, PlainPoint, value_at, holds_at}
use Rattle.lhg_row.specs.Piece.{PlainPiece, in_piece}
use Rattle.lhg_row.specs.Trim.{AreApart}
use Rattle.lhg_row.specs.ValueLaws.{fits_order-compare}
use Rattle.lhg_row.specs.Values.{fits_order}
use Rattle.lhg_row.specs.Column.{coef_at, lower_at, upper_at}
use Rattle.lhg_row.specs.Sample.{chosen}
use Rattle.lhg_row.specs.BoundLaws.{over_bound, under_bound, IsAllowed, chosen-between}
use Rattle.lhg_simplex.specs.Boxes.{first_row, lower_bound, upper_bound, lower_of, upper_of, box_value}
use Rattle.lhg_math.specs.InterpolateLaws.{unit-mul}
use Rattle.lhg_simplex.proofs.Singles.{no_zero, single_place, single_value}
use Rattle.lhg_simplex.proofs.Edges.{IsEdge, above_is, above_some, below_is, below_some, no_lower, no_upper, none_some}
use Rattle.lhg_simplex.proofs.BoxSum.{level_is}

-- ---- a value between the bounds
abbrev value_or : Number → Option Number → Number
value_or d None = d
value_or d (Some v) = v

some_is : (v w : Number) → Some v ≡ Some w → v ≡ w
some_is v w e = ap (value_or v) e

-- the value that is given is allowed by both bounds
pub box_allowed : (l u : Option Bound) (v : Number) → (box_value l u).value ≡ Some v → IsAllowed l u v
box_allowed None None v h = record { above = refl; below = refl }
box_allowed (Some l) None v h =
    let a = chosen-between (Some l) None (add l.at unit) (record { above = over_from_lt l (add l.at unit) (one_more l.at); below = refl }) in
    subst (IsAllowed (Some l) None) (some_is (chosen (Some l) None).value v h) a
box_allowed None (Some u) v h =
    let a = chosen-between None (Some u) (sub u.at unit) (record { above = refl; below = under_from_lt u (sub u.at unit) (one_less u.at) }) in
    subst (IsAllowed None (Some u)) (some_is (chosen None (Some u)).value v h) a
box_allowed (Some l) (Some u) v h =
    let strict = l.strict || u.strict in
    let given = λ (b : Bool). (cond b (valued (λ w. Some w) (chosen (Some l) (Some u))) (done None)).value in
    by_bool (fits_order strict (compare l.at u.at))
    (λ e.
    let f : fits l u ≡ true = sym (fits_order-compare strict l.at u.at) ∙ e in
    let m = mid_fits l u f in
    let a = chosen-between (Some l) (Some u) (mid l.at u.at) (record { above = m.0; below = m.1 }) in
    subst (IsAllowed (Some l) (Some u)) (some_is (chosen (Some l) (Some u)).value v (sym (ap given e) ∙ h)) a)
    (λ e. none_some v (sym (ap given e) ∙ h))

-- ---- a point of all rows
module _ (n : ℕ) (x : PlainPoint) (many : length x ≡ n) where
  -- the value of a row of variable k
  edge-value : (k : ℕ) (r : PlainRow) → IsEdge n r → is_nought (coef_at k r) ≡ false → value_at r x ≡ mul (coef_at k r) (get_or x k nought)
  edge-value k r a i = single_value nought k r.coefs x a.single i (many ∙ sym a.wide) ∙ nought-add (mul (coef_at k r) (get_or x k nought))

  below-holds : (k : ℕ) (r : PlainRow) → IsEdge n r → lower_at k r ≡ true → over (lower_bound r) (get_or x k nought) ≡ true → holds_at r x ≡ true
  below-holds k r a h o =
      let v = get_or x k nought in
      let value : value_at r x ≡ neg v = edge-value k r a (below_some n k r a h) ∙ ap (λ c. mul c v) (below_is n k r a h) ∙ neg-mul unit v ∙ ap neg (unit-mul v) in
      let up : lt (neg v) r.bound ≡ lt (neg r.bound) v = sym (lt-neg r.bound (neg v)) ∙ ap (λ w. lt (neg r.bound) w) (neg_neg v) in
      let down : lt r.bound (neg v) ≡ lt v (neg r.bound) = sym (lt-neg (neg v) r.bound) ∙ ap (λ w. lt w (neg r.bound)) (neg_neg v) in
      ap (λ w. cond r.strict (lt w r.bound) (not (lt r.bound w))) value
      ∙ ap (λ b. cond r.strict b (not (lt r.bound (neg v)))) up ∙ ap (λ b. cond r.strict (lt (neg r.bound) v) (not b)) down ∙ o

  above-holds : (k : ℕ) (r : PlainRow) → IsEdge n r → upper_at k r ≡ true → under (upper_bound r) (get_or x k nought) ≡ true → holds_at r x ≡ true
  above-holds k r a h o =
      let v = get_or x k nought in
      let value : value_at r x ≡ v = edge-value k r a (above_some n k r a h) ∙ ap (λ c. mul c v) (above_is n k r a h) ∙ unit-mul v in
      ap (λ w. cond r.strict (lt w r.bound) (not (lt r.bound w))) value ∙ o

  pub all-hold : (rows : PlainPiece) → AllOf (IsEdge n) rows → AreApart frac_arithmetic rows
      → ((k : ℕ) → k < n → IsAllowed (lower_of k rows) (upper_of k rows) (get_or x k nought)) → in_piece rows x ≡ true
  all-hold [] w p h = refl
  all-hold (r ∷ rows) w p h =
      let a = w.0 in
      let s = single_place r.coefs a.single in
      let k = s.place in
      let there : k < n = subst (λ m. k < m) a.wide s.there in
      let low = λ (e : lower_at k r ≡ true).
      let o : over (lower_bound r) (get_or x k nought) ≡ true = sym (ap (λ b. over_bound (option_map lower_bound (cond b (Some r) (first_row (lower_at k) rows))) (get_or x k nought)) e) ∙ (h k there).above in
      below-holds k r a e o in
      let high = λ (e : upper_at k r ≡ true).
      let o : under (upper_bound r) (get_or x k nought) ≡ true = sym (ap (λ b. under_bound (option_map upper_bound (cond b (Some r) (first_row (upper_at k) rows))) (get_or x k nought)) e) ∙ (h k there).below in
      above-holds k r a e o in
      let here : holds_at r x ≡ true = by_bool (lower_at k r) low (λ e. by_bool (upper_at k r) high (λ f. no_zero (coef_at k r) (nought_is (coef_at k r) (level_is (coef_at k r) e f)) s.some)) in
      ap (λ b. b && in_piece rows x) here ∙ all-hold rows w.1 p.1 (λ j l. record { above = later-low j (h j l).above; below = later-high j (h j l).below })
    where
      later-low : (j : ℕ) → over_bound (lower_of j (r ∷ rows)) (get_or x j nought) ≡ true → over_bound (lower_of j rows) (get_or x j nought) ≡ true
      later-low j o =
          by_bool (lower_at j r)
          (λ e. ap (λ q. over_bound (option_map lower_bound q) (get_or x j nought)) (no_lower n j r rows w.0 w.1 p.0 e))
          (λ e. sym (ap (λ b. over_bound (option_map lower_bound (cond b (Some r) (first_row (lower_at j) rows))) (get_or x j nought)) e) ∙ o)

      later-high : (j : ℕ) → under_bound (upper_of j (r ∷ rows)) (get_or x j nought) ≡ true → under_bound (upper_of j rows) (get_or x j nought) ≡ true
      later-high j o =
          by_bool (upper_at j r)
          (λ e. ap (λ q. under_bound (option_map upper_bound q) (get_or x j nought)) (no_upper n j r rows w.0 w.1 p.0 e))
          (λ e. sym (ap (λ b. under_bound (option_map upper_bound (cond b (Some r) (first_row (upper_at j) rows))) (get_or x j nought)) e) ∙ o)
