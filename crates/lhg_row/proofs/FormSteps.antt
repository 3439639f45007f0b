-- Steps of the loops that make a row of another one.
use Rattle.std.proofs.Common.{◌≡◌, ℕ, ◌+◌, ◌<◌, List, [], ◌∷◌, ◌++◌, length, map, drop, get_or, cond, sym, ap, ◌∙◌, append_assoc, arith}
use Rattle.std.specs.Prelude.{nat_eq, ◌≢◌}
use Rattle.std.specs.List.{range_with_len}
use Rattle.std.proofs.lemmas.Bool.{eq-eqb, ne_eqb}
use Rattle.std.proofs.lemmas.List.{map_push, drop_more, get_or-map}
use Rattle.std.proofs.lemmas.List.FromFn.{map-range_with_len_more}
use Rattle.lhg_math.specs.Number.{Number, nought}
use Rattle.lhg_row.specs.Moves.{coef_for}

-- ---- a list that is built of images
-- one image more, before those that are left
pub images-step : {B : Type 0} (m : B → Number) (out more : List B) (y : B) (z : Number) (rest whole : List Number) → map m out ++ z ∷ rest ≡ whole → m y ≡ z → more ≡ out ++ y ∷ []
    → map m more ++ rest ≡ whole
images-step m out more y z rest whole e h p =
    ap (λ ys. map m ys ++ rest) p ∙ ap (λ ys. ys ++ rest) (map_push m out y) ∙ append_assoc (map m out) (m y ∷ []) rest ∙ ap (λ w. map m out ++ w ∷ rest) h ∙ e

-- one image more, of the next number
pub named-step : {B : Type 0} (m : B → Number) (f : ℕ → Number) (out more : List B) (y : B) (j : ℕ) → map m out ≡ map f (range_with_len 0 j) → m y ≡ f j → more ≡ out ++ y ∷ []
    → map m more ≡ map f (range_with_len 0 (j + 1))
named-step m f out more y j e h p =
    ap (map m) p ∙ map_push m out y ∙ ap (λ ys. ys ++ m y ∷ []) e ∙ ap (λ w. map f (range_with_len 0 j) ++ w ∷ []) h ∙ sym (map-range_with_len_more f 0 j j (omega arith))

-- ---- the coefficient for a place
module _ (j i : ℕ) (ps : List ℕ) (cs : List Number) (in_ps : i < length ps) (in_cs : i < length cs) where
  -- the place at hand is asked first
  here : coef_for j (drop i ps) (drop i cs) ≡ cond (nat_eq j (get_or ps i 0)) (get_or cs i nought) (coef_for j (drop (i + 1) ps) (drop (i + 1) cs))
  here = ap (λ qs. coef_for j qs (drop i cs)) (drop_more ps i 0 in_ps) ∙ ap (λ ds. coef_for j (get_or ps i 0 ∷ drop (i + 1) ps) ds) (drop_more cs i nought in_cs)

  -- the place is found
  pub found : get_or ps i 0 ≡ j → get_or cs i nought ≡ coef_for j (drop i ps) (drop i cs)
  found e = sym (here ∙ ap (λ b. cond b (get_or cs i nought) (coef_for j (drop (i + 1) ps) (drop (i + 1) cs))) (eq-eqb j (get_or ps i 0) (sym e)))

  -- another place is passed over
  pub passed : get_or ps i 0 ≢ j → coef_for j (drop (i + 1) ps) (drop (i + 1) cs) ≡ coef_for j (drop i ps) (drop i cs)
  passed e = sym (here ∙ ap (λ b. cond b (get_or cs i nought) (coef_for j (drop (i + 1) ps) (drop (i + 1) cs))) (ne_eqb j (get_or ps i 0) (λ h. e (sym h))))

-- the image of a member is the member of the images
pub image_at : {N : Type 0} (m : N → Number) (cs : List N) (i : ℕ) (c : N) → c ≡ get_or cs i c → i < length cs → m c ≡ get_or (map m cs) i nought
image_at m cs i c e h = sym (get_or-map m cs i c nought h ∙ ap m (sym e))
