-- Steps of loops that walk over a list from a state to the next.
use Rattle.std.proofs.Common.{◌≡◌, ℕ, suc, ◌+◌, ◌<◌, ◌≤◌, List, ◌∷◌, length, map, drop, get_or, sym, ap, ◌∙◌, subst, arith}
use Rattle.std.proofs.lemmas.List.{drop_all}
use Rattle.lhg_num.specs.Marked.{Marked, walk, IsRest}
use Rattle.lhg_num.specs.MarkedLaws.{IsPart, walk-step, walk-part}
use Rattle.lhg_math.specs.ListFacts.{drop_cons}
use Rattle.lhg_plant.specs.OutCalculus.{numbered}

module _ {S A X : Type 0} (f : S → X → Marked S) (view : A → X) (xs : List A) (whole : Marked S) (s : S) (i : ℕ) where
  -- at the end the state is the answer
  pub walked-end : length xs ≤ i → IsRest whole (walk f s (map view (drop i xs))) → s ≡ whole.value
  walked-end h r = sym (ap (λ ys. (walk f s (map view ys)).value) (drop_all i xs h)) ∙ r.same

  module _ (x : A) (is : x ≡ get_or xs i x) (there : i < length xs) (r : IsRest whole (walk f s (map view (drop i xs)))) where
    here : IsRest whole (walk f s (view x ∷ map view (drop (i + 1) xs)))
    here = subst (λ ys. IsRest whole (walk f s (map view ys))) (drop_cons xs i x is there) r

    -- the marks of the next step are among those of the whole
    pub walked-part : IsPart whole (f s (view x))
    walked-part = walk-part f whole s (view x) (map view (drop (i + 1) xs)) here

    -- the next step
    pub walked-step : (t : S) → t ≡ (f s (view x)).value → IsRest whole (walk f t (map view (drop (i + 1) xs)))
    walked-step t e = walk-step f whole s t (view x) (map view (drop (i + 1) xs)) here e

-- ---- members with their places
module _ {S A X : Type 0} (f : S → ℕ × X → Marked S) (view : A → X) (xs : List A) (whole : Marked S) (s : S) (i : ℕ) where
  -- at the end the state is the answer
  pub numbered-end : length xs ≤ i → IsRest whole (walk f s (numbered i (map view (drop i xs)))) → s ≡ whole.value
  numbered-end h r = sym (ap (λ ys. (walk f s (numbered i (map view ys))).value) (drop_all i xs h)) ∙ r.same

  module _ (x : A) (is : x ≡ get_or xs i x) (there : i < length xs) (r : IsRest whole (walk f s (numbered i (map view (drop i xs))))) where
    numbered-here : IsRest whole (walk f s ((i, view x) ∷ numbered (suc i) (map view (drop (i + 1) xs))))
    numbered-here = subst (λ ys. IsRest whole (walk f s (numbered i (map view ys)))) (drop_cons xs i x is there) r

    -- the marks of the next step are among those of the whole
    pub numbered-part : IsPart whole (f s (i, view x))
    numbered-part = walk-part f whole s (i, view x) (numbered (suc i) (map view (drop (i + 1) xs))) numbered-here

    -- the next step
    pub numbered-step : (t : S) → t ≡ (f s (i, view x)).value → IsRest whole (walk f t (numbered (i + 1) (map view (drop (i + 1) xs))))
    numbered-step t e =
        let next : suc i ≡ i + 1 = omega arith in
        subst (λ k. IsRest whole (walk f t (numbered k (map view (drop (i + 1) xs))))) next (walk-step f whole s t (i, view x) (numbered (suc i) (map view (drop (i + 1) xs))) numbered-here e)
