-- Steps of the loop that combines the entries of two rows.
use Rattle.std.proofs.Common.{◌≡◌, ℕ, ◌+◌, ◌<◌, List, [], ◌∷◌, ◌++◌, length, map, drop, get_or, sym, ap, ◌∙◌, subst}
use Rattle.std.proofs.lemmas.List.{map_push}
use Rattle.lhg_math.specs.Number.{Number}
use Rattle.lhg_num.specs.Arithmetic.{Arithmetic}
use Rattle.lhg_num.specs.Marked.{Marked}
use Rattle.lhg_num.specs.MarkedLaws.{IsBuilt, IsPart, built-step, built-part}
use Rattle.lhg_math.specs.ListFacts.{drop-map_cons}
use Rattle.lhg_row.specs.Combine.{entry, entries}

module _ {N : Type 0} (m : N → Number) (a : Arithmetic) (f g : Number) (cs ds : List N) (i : ℕ) (c d : N) (c_is : c ≡ get_or cs i c) (d_is : d ≡ get_or ds i d) (in_cs : i < length cs) (in_ds : i < length ds)
    (whole : Marked (List Number)) (out : List N) (b : IsBuilt whole (map m out) (entries a f g (drop i (map m cs)) (drop i (map m ds)))) where
  -- the entries at hand are the first that are left
  here : IsBuilt whole (map m out) (entries a f g (m c ∷ drop (i + 1) (map m cs)) (m d ∷ drop (i + 1) (map m ds)))
  here =
      subst (λ ys. IsBuilt whole (map m out) (entries a f g (m c ∷ drop (i + 1) (map m cs)) ys)) (drop-map_cons m ds i d d_is in_ds)
      (subst (λ ys. IsBuilt whole (map m out) (entries a f g ys (drop i (map m ds)))) (drop-map_cons m cs i c c_is in_cs) b)

  -- one entry more
  pub entries-step : (more : List N) (x : N) → more ≡ out ++ x ∷ [] → m x ≡ (entry a f g (m c) (m d)).value → IsBuilt whole (map m more) (entries a f g (drop (i + 1) (map m cs)) (drop (i + 1) (map m ds)))
  entries-step more x e h =
      subst (λ ys. IsBuilt whole ys (entries a f g (drop (i + 1) (map m cs)) (drop (i + 1) (map m ds)))) (sym (ap (map m) e ∙ map_push m out x))
      (built-step whole (map m out) (entry a f g (m c) (m d)) (entries a f g (drop (i + 1) (map m cs)) (drop (i + 1) (map m ds))) (m x) here h)

  -- its marks
  pub entries-part : IsPart whole (entry a f g (m c) (m d))
  entries-part = built-part whole (map m out) (entry a f g (m c) (m d)) (entries a f g (drop (i + 1) (map m cs)) (drop (i + 1) (map m ds))) here
