-- Steps of loops over the places of lists.
use Rattle.std.proofs.Common.{◌≡◌, ℕ, suc, ◌+◌, ◌-◌, ◌<◌, ◌≤◌, List, [], ◌∷◌, ◌++◌, length, get_or, sym, ap, ◌∙◌, subst, arith}
use Rattle.std.specs.List.{range_with_len}
use Rattle.std.specs.Global.{Vec}
use Rattle.std.proofs.lemmas.List.{get_or-map, length-map}
use Rattle.lhg_num.specs.Marked.{Marked, each}
use Rattle.lhg_num.specs.MarkedLaws.{IsPart, IsBuilt, each-start, each-step, each-part, built-end}
use Rattle.lhg_row.specs.System.{PlainSystem}
use Rattle.lhg_union.specs.PolyLists.{lines_of}
use Rattle.lhg_union.specs.Regions.{polys_of, plain_region}
use Rattle.lhg_plant.specs.Invariants.{pieces_at}

-- the next place of the range
range-cons : (l m : ℕ) → l < m → range_with_len l (m - l) ≡ l ∷ range_with_len (l + 1) (m - (l + 1))
range-cons l m h = let e : m - l ≡ suc (m - (l + 1)) = omega (arith, h) in ap (range_with_len l) e

-- no place is left
range-end : (l m : ℕ) → m ≤ l → range_with_len l (m - l) ≡ []
range-end l m h = let e : m - l ≡ 0 = omega (arith, h) in ap (range_with_len l) e

module _ {B : Type 0} (f : ℕ → Marked B) (m : ℕ) where
  -- the values of the places so far
  abbrev pub IsRanging : List B → ℕ → Type 0
  IsRanging out l = IsBuilt (each f (range_with_len 0 m)) out (each f (range_with_len l (m - l)))

  -- at the start there is none
  pub ranging-start : IsRanging [] 0
  ranging-start =
      let e : m ≡ m - 0 = omega arith in
      subst (λ k. IsBuilt (each f (range_with_len 0 m)) [] (each f (range_with_len 0 k))) e (each-start f (range_with_len 0 m))

  module _ (out : List B) (l : ℕ) (r : IsRanging out l) where
    -- at the end these are all
    pub ranging-end : m ≤ l → out ≡ (each f (range_with_len 0 m)).value
    ranging-end h = built-end (each f (range_with_len 0 m)) out (subst (λ xs. IsBuilt (each f (range_with_len 0 m)) out (each f xs)) (range-end l m h) r)

    module _ (h : l < m) where
      here : IsBuilt (each f (range_with_len 0 m)) out (each f (l ∷ range_with_len (l + 1) (m - (l + 1))))
      here = subst (λ xs. IsBuilt (each f (range_with_len 0 m)) out (each f xs)) (range-cons l m h) r

      -- the marks of the next value
      pub ranging-part : IsPart (each f (range_with_len 0 m)) (f l)
      ranging-part = each-part f (each f (range_with_len 0 m)) out l (range_with_len (l + 1) (m - (l + 1))) here

      -- the next value
      pub ranging-step : (y : B) (more : List B) → y ≡ (f l).value → more ≡ out ++ y ∷ [] → IsRanging more (l + 1)
      ranging-step y more e g =
          subst (λ ys. IsRanging ys (l + 1)) (sym g) (each-step f (each f (range_with_len 0 m)) out l (range_with_len (l + 1) (m - (l + 1))) y here e)

-- the pieces of a region at a place are the rows of the list there
pub lines-at : (xs : List (Vec PlainSystem)) (l : ℕ) (v : Vec PlainSystem) → v ≡ get_or xs l v → l < length xs → lines_of v.items ≡ pieces_at (plain_region xs) l
lines-at xs l v e h =
    let long : l < length (polys_of xs) = omega (arith, h, length-map xs (λ (w : Vec PlainSystem). w.items)) in
    ap (λ (w : Vec PlainSystem). lines_of w.items) e
    ∙ sym (get_or-map lines_of (polys_of xs) l [] [] long ∙ ap lines_of (get_or-map (λ (w : Vec PlainSystem). w.items) xs l v [] h))
