-- Older and newest pieces as slices of a list.
use Rattle.std.proofs.Common.{◌≡◌, ◌<◌, ℕ, zero, suc, List, [], ◌∷◌, map, take, drop, length, get_or, refl, sym, ap, ◌∙◌, subst, arith}
use Rattle.std.specs.Global.{Vec}
use Rattle.lhg_math.specs.Tests.{AllOf}
use Rattle.lhg_row.specs.Piece.{PlainPiece}
use Rattle.lhg_row.specs.System.{PlainSystem}
use Rattle.lhg_plant.specs.Plant.{PlainPlant}
use Rattle.lhg_plant.specs.Invariants.{pieces_at}
use Rattle.lhg_plant.specs.Inside.{AllInside}
use Rattle.lhg_plant.specs.Sound.{IsInside}
use Rattle.lhg_union.specs.PolyLists.{lines_of}
use Rattle.lhg_union.specs.Regions.{plain_region}
use Rattle.lhg_union.proofs.ListFacts.{all_at}
use Rattle.lhg_jump.proofs.RangeSteps.{lines-at}

lines-take : (k : ℕ) (ps : List PlainSystem) → lines_of (take k ps) ≡ take k (lines_of ps)
lines-take zero ps = refl
lines-take (suc k) [] = refl
lines-take (suc k) (p ∷ ps) = ap (λ ls. p.lines ∷ ls) (lines-take k ps)

lines-drop : (k : ℕ) (ps : List PlainSystem) → lines_of (drop k ps) ≡ drop k (lines_of ps)
lines-drop zero ps = refl
lines-drop (suc k) [] = refl
lines-drop (suc k) (p ∷ ps) = lines-drop k ps

-- a number that is there is that at the place, whatever stands past the end
there_at : (ks : List ℕ) (l k : ℕ) → k ≡ get_or ks l k → l < length ks → k ≡ get_or ks l zero
there_at [] l k e h = absurd (omega arith)
there_at (x ∷ ks) zero k e h = e
there_at (x ∷ ks) (suc l) k e h = there_at ks l k e (omega arith)

-- the slices of a list at a place
module _ (xs : List (Vec PlainSystem)) (ks : List ℕ) (l : ℕ) (v : Vec PlainSystem) (v_is : v ≡ get_or xs l v) (in_xs : l < length xs) (k : ℕ) (k_is : k ≡ get_or ks l k) (in_ks : l < length ks) (ps : List PlainSystem) (ps_are : ps ≡ v.items) where
  pub oldest_slice : (qs : List PlainSystem) → qs ≡ take k ps → lines_of qs ≡ take (get_or ks l zero) (pieces_at (plain_region xs) l)
  oldest_slice qs e = ap lines_of e ∙ lines-take k ps ∙ ap (λ (i : ℕ). take i (lines_of ps)) (there_at ks l k k_is in_ks) ∙ ap (take (get_or ks l zero)) (ap lines_of ps_are ∙ lines-at xs l v v_is in_xs)

  pub newest_slice : (qs : List PlainSystem) → qs ≡ drop k ps → lines_of qs ≡ drop (get_or ks l zero) (pieces_at (plain_region xs) l)
  newest_slice qs e = ap lines_of e ∙ lines-drop k ps ∙ ap (λ (i : ℕ). drop i (lines_of ps)) (there_at ks l k k_is in_ks) ∙ ap (drop (get_or ks l zero)) (ap lines_of ps_are ∙ lines-at xs l v v_is in_xs)

-- ---- inside
all_lines : (P : PlainPiece → Type 0) (ps : List PlainSystem) → AllOf P (lines_of ps) → AllOf (λ p. P p.lines) ps
all_lines P [] h = tt
all_lines P (p ∷ ps) h = (h.0, all_lines P ps h.1)

all_dropped : (P : PlainPiece → Type 0) (k : ℕ) (ps : List PlainPiece) → AllOf P ps → AllOf P (drop k ps)
all_dropped P zero ps h = h
all_dropped P (suc k) [] h = tt
all_dropped P (suc k) (p ∷ ps) h = all_dropped P k ps h.1

-- a piece of a slice lies inside the invariant
pub slice_inside : (a : PlainPlant) (l k : ℕ) (here : List PlainPiece) (qs : List PlainSystem) → AllInside a l here → lines_of qs ≡ drop k here → (i : ℕ) (x : PlainSystem) → x ≡ get_or qs i x → i < length qs → IsInside a l x.lines
slice_inside a l k here qs h e i x x_is there =
    all_at (λ p. IsInside a l p.lines) qs i x x_is there (all_lines (IsInside a l) qs (subst (AllInside a l) (sym e) (all_dropped (IsInside a l) k here h)))
