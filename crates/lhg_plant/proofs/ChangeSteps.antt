-- Steps of the value of a row on the differences of two points.
use Rattle.std.proofs.Common.{◌≡◌, ℕ, ◌+◌, ◌<◌, List, ◌∷◌, length, map, drop, get_or, subst}
use Rattle.lhg_math.specs.Number.{Number}
use Rattle.lhg_num.specs.Arithmetic.{Arithmetic}
use Rattle.lhg_num.specs.Marked.{Marked, IsRest}
use Rattle.lhg_num.specs.MarkedLaws.{IsPart}
use Rattle.lhg_math.specs.ListFacts.{drop-map_cons}
use Rattle.lhg_num.specs.PartLaws.{rest_step, step_part}
use Rattle.lhg_plant.specs.LegalTruths.{plus_change, marked_change}

module _ {N : Type 0} (m : N → Number) (a : Arithmetic) (s : N) (cs xs ys : List N) (i : ℕ) (c x y : N) (c_is : c ≡ get_or cs i c) (x_is : x ≡ get_or xs i x) (y_is : y ≡ get_or ys i y)
    (in_cs : i < length cs) (in_xs : i < length xs) (in_ys : i < length ys) (whole : Marked Number) (r : IsRest whole (marked_change a (m s) (drop i (map m cs)) (drop i (map m xs)) (drop i (map m ys)))) where
  abbrev later : Number → Marked Number
  later t = marked_change a t (drop (i + 1) (map m cs)) (drop (i + 1) (map m xs)) (drop (i + 1) (map m ys))

  -- the product at hand is the first that is left
  here : IsRest whole (marked_change a (m s) (m c ∷ drop (i + 1) (map m cs)) (m x ∷ drop (i + 1) (map m xs)) (m y ∷ drop (i + 1) (map m ys)))
  here =
      subst (λ zs. IsRest whole (marked_change a (m s) (m c ∷ drop (i + 1) (map m cs)) (m x ∷ drop (i + 1) (map m xs)) zs)) (drop-map_cons m ys i y y_is in_ys)
      (subst (λ zs. IsRest whole (marked_change a (m s) (m c ∷ drop (i + 1) (map m cs)) zs (drop i (map m ys)))) (drop-map_cons m xs i x x_is in_xs)
      (subst (λ zs. IsRest whole (marked_change a (m s) zs (drop i (map m xs)) (drop i (map m ys)))) (drop-map_cons m cs i c c_is in_cs) r))

  -- one product more
  pub change-step : (t : N) → m t ≡ (plus_change a (m s) (m c) (m x) (m y)).value → IsRest whole (later (m t))
  change-step t e = rest_step whole (plus_change a (m s) (m c) (m x) (m y)) later (m t) here e

  -- its marks are among those of the whole
  pub change-part : IsPart whole (plus_change a (m s) (m c) (m x) (m y))
  change-part = step_part whole (plus_change a (m s) (m c) (m x) (m y)) later here
