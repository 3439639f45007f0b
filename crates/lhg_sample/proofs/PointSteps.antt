-- The value of a row's first terms, and the steps of the loop that seeks the tightest bound.
use Rattle.std.proofs.Common.{◌≡◌, ℕ, suc, ◌+◌, ◌<◌, List, [], ◌∷◌, ◌++◌, length, take, drop, get_or, refl, sym, ap, ◌∙◌, subst}
use Rattle.lhg_math.specs.Number.{Number}
use Rattle.lhg_num.specs.Arithmetic.{Arithmetic}
use Rattle.lhg_num.specs.FracArithmetic.{frac_arithmetic}
use Rattle.lhg_num.specs.Marked.{Marked, and_then, valued, walk, IsRest}
use Rattle.lhg_num.specs.MarkedLaws.{IsPart, rest_rest, and_then-rest, walk-step, walk-part}
use Rattle.lhg_num.specs.PartLaws.{step_part}
use Rattle.lhg_math.specs.ListFacts.{drop_cons}
use Rattle.lhg_row.specs.Row.{PlainPoint}
use Rattle.lhg_row.specs.Piece.{PlainPiece}
use Rattle.lhg_row.specs.Values.{plus_product, marked_value}
use Rattle.lhg_row.specs.Eliminate.{eliminate}
use Rattle.lhg_row.specs.Sample.{value_of, sample}

-- ---- the value
-- coefficients past the last coordinate are not asked
pub value-front : (a : Arithmetic) (s : Number) (cs xs : List Number) → marked_value a s (take (length xs) cs) xs ≡ marked_value a s cs xs
value-front a s [] [] = refl
value-front a s [] (x ∷ xs) = refl
value-front a s (c ∷ cs) [] = refl
value-front a s (c ∷ cs) (x ∷ xs) = let m = plus_product a s c x in ap (λ (n : Marked Number). and_then m (λ _. n)) (value-front a m.value cs xs)

-- ---- the tightest bound
module _ {S A : Type 0} (f : S → A → Marked S) (xs : List A) (s : S) (i : ℕ) (x : A) (x_is : x ≡ get_or xs i x) (in_xs : i < length xs) (whole : Marked S) (r : IsRest whole (walk f s (drop i xs))) where
  walk-here : IsRest whole (walk f s (x ∷ drop (i + 1) xs))
  walk-here = subst (λ ys. IsRest whole (walk f s ys)) (drop_cons xs i x x_is in_xs) r

  -- one member more
  pub walked-step : (t : S) → t ≡ (f s x).value → IsRest whole (walk f t (drop (i + 1) xs))
  walked-step t e = walk-step f whole s t x (drop (i + 1) xs) walk-here e

  -- its marks are among those of the whole
  pub walked-part : IsPart whole (f s x)
  walked-part = walk-part f whole s x (drop (i + 1) xs) walk-here

-- ---- the sample
module _ (n j : ℕ) (rows : PlainPiece) (n_is : n ≡ suc j) where
  -- the marks of the sample of what is left
  pub before-part : (m : ℕ) (es : PlainPiece) → m ≡ j → es ≡ (eliminate frac_arithmetic j rows).value → IsPart (sample n rows) (sample m es)
  before-part m es e f =
      let p = step_part (sample (suc j) rows) (sample j (eliminate frac_arithmetic j rows).value) (λ q. valued (λ v. q ++ v ∷ []) (value_of j q rows))
      (and_then-rest (eliminate frac_arithmetic j rows) (λ t. and_then (sample j t) (λ q. valued (λ v. q ++ v ∷ []) (value_of j q rows)))) in
      subst (λ k. IsPart (sample k rows) (sample m es)) (sym n_is)
      (subst (λ k. IsPart (sample (suc j) rows) (sample k es)) (sym e) (subst (λ t. IsPart (sample (suc j) rows) (sample j t)) (sym f) p))

  -- the marks of the last value
  pub value-of_part : (m : ℕ) (es : PlainPiece) (p : PlainPoint) → m ≡ j → es ≡ (eliminate frac_arithmetic j rows).value → p ≡ (sample m es).value → IsPart (sample n rows) (value_of j p rows)
  value-of_part m es p e f g =
      let left = (eliminate frac_arithmetic j rows).value in
      let same : p ≡ (sample j left).value = g ∙ ap (λ k. (sample k es).value) e ∙ ap (λ t. (sample j t).value) f in
      let last : Marked PlainPoint = valued (λ v. (sample j left).value ++ v ∷ []) (value_of j (sample j left).value rows) in
      let r : IsRest (sample (suc j) rows) last =
      rest_rest (sample (suc j) rows) (and_then (sample j left) (λ q. valued (λ v. q ++ v ∷ []) (value_of j q rows))) last
      (and_then-rest (eliminate frac_arithmetic j rows) (λ t. and_then (sample j t) (λ q. valued (λ v. q ++ v ∷ []) (value_of j q rows))))
      (and_then-rest (sample j left) (λ q. valued (λ v. q ++ v ∷ []) (value_of j q rows))) in
      let part : IsPart (sample (suc j) rows) (value_of j (sample j left).value rows) = record { wide = r.wide; rows = r.rows; pieces = r.pieces } in
      subst (λ k. IsPart (sample k rows) (value_of j p rows)) (sym n_is) (subst (λ q. IsPart (sample (suc j) rows) (value_of j q rows)) (sym same) part)
