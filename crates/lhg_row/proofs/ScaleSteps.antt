-- Steps of the loops that seek a leading coefficient and compare scaled rows.
use Rattle.std.proofs.Common.{◌≡◌, ℕ, ◌+◌, ◌<◌, List, ◌∷◌, length, map, drop, get_or, Bool, true, false, cond, ◌&&◌, sym, ap, ◌∙◌, subst}
use Rattle.lhg_math.specs.Number.{Number}
use Rattle.lhg_math.specs.Signs.{is_nought, lead}
use Rattle.lhg_num.specs.Arithmetic.{Arithmetic}
use Rattle.lhg_num.specs.Marked.{Marked, valued, IsRest}
use Rattle.lhg_num.specs.MarkedLaws.{IsPart}
use Rattle.lhg_num.specs.PartLaws.{rest_step, step_part}
use Rattle.lhg_math.specs.ListFacts.{drop-map_cons}
use Rattle.lhg_row.specs.Trim.{agree_at, agree}

-- ---- the leading coefficient
module _ {N : Type 0} (m : N → Number) (cs : List N) (i : ℕ) (c : N) (c_is : c ≡ get_or cs i c) (in_cs : i < length cs) where
  -- the coefficient at hand leads unless it is 0
  lead-here : lead (drop i (map m cs)) ≡ cond (is_nought (m c)) (lead (drop (i + 1) (map m cs))) (m c)
  lead-here = ap lead (drop-map_cons m cs i c c_is in_cs)

  -- it is found
  pub lead-found : is_nought (m c) ≡ false → m c ≡ lead (drop i (map m cs))
  lead-found e = sym (lead-here ∙ ap (λ b. cond b (lead (drop (i + 1) (map m cs))) (m c)) e)

  -- a 0 is passed over
  pub lead-passed : is_nought (m c) ≡ true → lead (drop (i + 1) (map m cs)) ≡ lead (drop i (map m cs))
  lead-passed e = sym (lead-here ∙ ap (λ b. cond b (lead (drop (i + 1) (map m cs))) (m c)) e)

-- ---- scaled entries
module _ {N : Type 0} (m : N → Number) (a : Arithmetic) (h : Number → Number) (f g : Number) (cs ds : List N) (i : ℕ) (c d : N) (c_is : c ≡ get_or cs i c) (d_is : d ≡ get_or ds i d) (in_cs : i < length cs) (in_ds : i < length ds)
    (whole : Marked Bool) (r : IsRest whole (agree a h f g (drop i (map m cs)) (drop i (map m ds)))) where
  -- the entries that are left after those at hand
  abbrev later : Marked Bool
  later = agree a h f g (drop (i + 1) (map m cs)) (drop (i + 1) (map m ds))

  -- the entries at hand are the first that are left
  agree-here : IsRest whole (agree a h f g (m c ∷ drop (i + 1) (map m cs)) (m d ∷ drop (i + 1) (map m ds)))
  agree-here =
      subst (λ ys. IsRest whole (agree a h f g (m c ∷ drop (i + 1) (map m cs)) ys)) (drop-map_cons m ds i d d_is in_ds)
      (subst (λ ys. IsRest whole (agree a h f g ys (drop i (map m ds)))) (drop-map_cons m cs i c c_is in_cs) r)

  -- the marks of their comparison are among those of the whole
  pub agree-part : IsPart whole (agree_at a h f g (m c) (m d))
  agree-part = step_part whole (agree_at a h f g (m c) (m d)) (λ b. valued (λ t. b && t) later) agree-here

  -- after their comparison the others are left
  agree-next : (b : Bool) → b ≡ (agree_at a h f g (m c) (m d)).value → IsRest whole (valued (λ t. b && t) later)
  agree-next b e = rest_step whole (agree_at a h f g (m c) (m d)) (λ b. valued (λ t. b && t) later) b agree-here e

  -- two entries that do not agree decide
  pub agree-stop : (b : Bool) → b ≡ (agree_at a h f g (m c) (m d)).value → b ≡ false → false ≡ whole.value
  agree-stop b e k = ap (λ t. t && later.value) (sym k) ∙ (agree-next b e).same

  -- after two that agree the others are left
  pub agree-on : (b : Bool) → b ≡ (agree_at a h f g (m c) (m d)).value → b ≡ true → IsRest whole later
  agree-on b e k = subst (λ s. IsRest whole (valued (λ t. s && t) later)) k (agree-next b e)
