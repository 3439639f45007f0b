-- What is left of the value of a row after one product?
use Rattle.std.proofs.Common.{◌≡◌, ℕ, ◌+◌, ◌<◌, List, ◌∷◌, length, map, drop, get_or, subst}
use Rattle.lhg_math.specs.Number.{Number}
use Rattle.lhg_num.specs.Arithmetic.{Arithmetic}
use Rattle.lhg_num.specs.Marked.{Marked, IsRest}
use Rattle.lhg_num.specs.MarkedLaws.{IsPart}
use Rattle.lhg_num.specs.PartLaws.{rest_step, step_part}
use Rattle.lhg_row.specs.Values.{plus_product, marked_value}
use Rattle.lhg_math.specs.ListFacts.{drop-map_cons}

-- ---- the value of a row at a point
module _ {N : Type 0} (m : N → Number) (a : Arithmetic) (s : N) (cs xs : List N) (i : ℕ) (c x : N) (c_is : c ≡ get_or cs i c) (x_is : x ≡ get_or xs i x) (in_cs : i < length cs) (in_xs : i < length xs)
    (whole : Marked Number) (r : IsRest whole (marked_value a (m s) (drop i (map m cs)) (drop i (map m xs)))) where
  -- the product at hand is the first that is left
  here : IsRest whole (marked_value a (m s) (m c ∷ drop (i + 1) (map m cs)) (m x ∷ drop (i + 1) (map m xs)))
  here =
      subst (λ ys. IsRest whole (marked_value a (m s) (m c ∷ drop (i + 1) (map m cs)) ys)) (drop-map_cons m xs i x x_is in_xs)
      (subst (λ ys. IsRest whole (marked_value a (m s) ys (drop i (map m xs)))) (drop-map_cons m cs i c c_is in_cs) r)

  -- one product more
  pub value-step : (t : N) → m t ≡ (plus_product a (m s) (m c) (m x)).value → IsRest whole (marked_value a (m t) (drop (i + 1) (map m cs)) (drop (i + 1) (map m xs)))
  value-step t e =
      rest_step whole (plus_product a (m s) (m c) (m x)) (λ u. marked_value a u (drop (i + 1) (map m cs)) (drop (i + 1) (map m xs))) (m t) here e

  -- the marks of this product and sum are among those of the whole
  pub value-part : IsPart whole (plus_product a (m s) (m c) (m x))
  value-part = step_part whole (plus_product a (m s) (m c) (m x)) (λ u. marked_value a u (drop (i + 1) (map m cs)) (drop (i + 1) (map m xs))) here
