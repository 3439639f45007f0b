-- Is a system whose rows have one variable each decided by the bounds of its variables?
use Rattle.std.specs.Prelude.{◌≡◌, ◌<◌, ◌⊎◌, ℕ, Bool, true, false, ◌&&◌, List, [], ◌∷◌, length, get_or, Option, Some, None, option_map}
use Rattle.std.proofs.Common.{refl, sym, ap, ◌∙◌, inl, inr}
use Rattle.std.proofs.lemmas.Bool.{and_parts, eq-eqb}
use Rattle.lhg_math.specs.Number.{Number, mul, neg, nought, unit, inverse, quot}
use Rattle.lhg_math.specs.NumberRing.{mul-unit, neg-mul, mul-neg, neg_neg}
use Rattle.lhg_math.specs.NumberOrder.{nought_unit}
use Rattle.lhg_math.specs.Quotients.{mul-inverse, abs_pos_of_lt, quot-is}
use Rattle.lhg_math.specs.Signs.{is_nought, lead}
use Rattle.lhg_math.specs.SignLaws.{is_nought-positive, is_nought-neg, abs_pos}
use Rattle.lhg_math.specs.Bounds.{Bound}
use Rattle.lhg_math.specs.Tests.{AllOf, false_true}
use Rattle.lhg_num.specs.FracArithmetic.{frac_arithmetic, frac_is_lawful}
use Rattle.lhg_num.specs.Marked.{Marked}
use Rattle.lhg_row.specs.Row.{PlainRow, PlainPoint}
use Rattle.lhg_row.specs.Piece.{PlainPiece, in_piece}
use Rattle.lhg_row.specs.Constant.{is_constant, is_nothing}
use Rattle.lhg_row.specs.Width.{AllWide}
use Rattle.lhg_row.specs.System.{IsSystem}
use Rattle.lhg_row.specs.Trim.{IsScaled, IsSettled}
use Rattle.lhg_row.specs.TrimmedLaws.{trimmed-settled}
use Rattle.lhg_row.specs.Column.{lower_at, upper_at}
use Rattle.lhg_simplex.specs.Mixed.{refutes}
use Rattle.lhg_simplex.specs.Verdict.{has_one, verdict}
use Rattle.lhg_simplex.specs.declared.guesses.Guess.TheVariants.{Point}
use Rattle.lhg_simplex.specs.Boxes.{is_single, IsBoxed, first_row, lower_bound, upper_bound, lower_of, upper_of, box_value, value_in, picked, HasValues, HasWideBounds, bound_on, lower_on, upper_on}
use Rattle.lhg_math.specs.InterpolateLaws.{unit-mul}
use Rattle.lhg_simplex.proofs.Singles.{single_lead, single_place}
use Rattle.lhg_simplex.proofs.Edges.{IsEdge, above_is, below_is, first_is, unit_size}
use Rattle.lhg_simplex.proofs.BoxSum.{refuted}
use Rattle.lhg_simplex.proofs.BoxPoint.{all-hold, box_allowed}

-- ---- systems
single_some : (cs : List Number) → is_single cs ≡ true → is_nought (lead cs) ≡ false
single_some cs h = let p = single_place cs h in ap is_nought (single_lead p.place cs h p.some) ∙ p.some

edges : (n : ℕ) (rows : PlainPiece) → AllWide n rows → IsBoxed rows → AllOf (IsScaled frac_arithmetic) rows → AllOf (IsEdge n) rows
edges n [] w b s = tt
edges n (r ∷ rows) w b s = (record { wide = w.0; single = b.0; size = unit_size r s.0 (single_some r.coefs b.0) }, edges n rows w.1 b.1 s.1)

boxed-settled : (rows : PlainPiece) → IsBoxed rows → (is_nothing rows ≡ true) ⊎ IsSettled frac_arithmetic rows → IsSettled frac_arithmetic rows
boxed-settled [] b (inl f) = false_true f
boxed-settled (r ∷ []) b (inl f) = let c = (and_parts (is_constant r) (r.strict && is_nought r.bound) f).0 in false_true (sym (single_some r.coefs b.0) ∙ c)
boxed-settled (r ∷ s ∷ rows) b (inl f) = false_true f
boxed-settled rows b (inr h) = h

-- ---- bounds as quotients
quot-unit : (b : Number) → quot b unit ≡ b
quot-unit b =
    let i = inverse unit in
    let one : mul unit i ≡ unit = mul-inverse unit (abs_pos_of_lt unit nought_unit) in
    quot-is b unit ∙ ap (λ w. mul b w) (sym (unit-mul i) ∙ one) ∙ mul-unit b

quot-minus : (b : Number) → quot b (neg unit) ≡ neg b
quot-minus b =
    let i = inverse (neg unit) in
    let some : is_nought (neg unit) ≡ false = is_nought-neg unit ∙ is_nought-positive unit nought_unit in
    let one : mul (neg unit) i ≡ unit = mul-inverse (neg unit) (abs_pos (neg unit) some) in
    let is : neg i ≡ unit = ap neg (sym (unit-mul i)) ∙ sym (neg-mul unit i) ∙ one in
    quot-is b (neg unit) ∙ ap (λ w. mul b w) (sym (neg_neg i) ∙ ap neg is) ∙ mul-neg b unit ∙ ap neg (mul-unit b)

abbrev with_strict : Bool → Number → Bound
with_strict s v = record { at = v; strict = s }

module _ (n k : ℕ) (rows : PlainPiece) (w : AllOf (IsEdge n) rows) where
  lower-by : (o : Option PlainRow) → first_row (lower_at k) rows ≡ o → option_map (bound_on k) o ≡ option_map lower_bound o
  lower-by None e = refl
  lower-by (Some r) e =
      let a = first_is (IsEdge n) (lower_at k) rows r w e in
      ap (λ v. Some (with_strict r.strict v)) (ap (quot r.bound) (below_is n k r a.known a.passes) ∙ quot-minus r.bound)

  upper-by : (o : Option PlainRow) → first_row (upper_at k) rows ≡ o → option_map (bound_on k) o ≡ option_map upper_bound o
  upper-by None e = refl
  upper-by (Some r) e =
      let a = first_is (IsEdge n) (upper_at k) rows r w e in
      ap (λ v. Some (with_strict r.strict v)) (ap (quot r.bound) (above_is n k r a.known a.passes) ∙ quot-unit r.bound)

  bounds-are : box_value (lower_on k rows) (upper_on k rows) ≡ value_in k rows
  bounds-are =
      ap (λ l. box_value l (upper_on k rows)) (lower-by (first_row (lower_at k) rows) refl) ∙ ap (box_value (lower_of k rows)) (upper-by (first_row (upper_at k) rows) refl)

module _ (n : ℕ) (rows : PlainPiece) (system : IsSystem frac_arithmetic n rows) where
  -- a refusal on the scaled bounds is one on the bounds
  pub wide-bounds : (k : ℕ) → k < n → (value_in k rows).wide ≡ true → IsBoxed rows → HasWideBounds n rows
  wide-bounds k there h b =
      let s = boxed-settled rows b (trimmed-settled frac_arithmetic rows frac_is_lawful system.trimmed) in
      record { variable = k; there = there; wide = ap (λ (m : Marked (Option Number)). m.wide) (bounds-are n k rows (edges n rows system.wide b s.scaled)) ∙ h }

  -- where some variable has no value the rows of that variable refute
  pub no_value-decides : (k : ℕ) (guess : List Number) → guess ≡ picked k rows → (value_in k rows).value ≡ None → IsBoxed rows → refutes n rows guess ≡ true
  no_value-decides k guess is h b =
      let s = boxed-settled rows b (trimmed-settled frac_arithmetic rows frac_is_lawful system.trimmed) in
      ap (refutes n rows) is ∙ refuted n k rows (edges n rows system.wide b s.scaled) s.apart h

  -- where each variable has a value they make a point of the rows
  pub values-decide : (x : PlainPoint) → HasValues n rows x → IsBoxed rows → verdict n rows (Point x) ≡ Some false
  values-decide x h b =
      let s = boxed-settled rows b (trimmed-settled frac_arithmetic rows frac_is_lawful system.trimmed) in
      let inside = all-hold n x h.many rows (edges n rows system.wide b s.scaled) s.apart (λ k l. box_allowed (lower_of k rows) (upper_of k rows) (get_or x k nought) (h.values k l)) in
      ap (λ c. has_one (c && in_piece rows x)) (eq-eqb (length x) n h.many) ∙ ap has_one inside
