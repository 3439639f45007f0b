-- Lists that are joined, as the code holds them.
use Rattle.std.proofs.Common.{◌≡◌, ◌<◌, ℕ, Bool, true, false, not, List, [], ◌∷◌, ◌++◌, length, get_or, set, Option, Some, None, refl, sym, ap, ◌∙◌, subst, arith}
use Rattle.std.specs.Prelude.{is_some}
use Rattle.std.specs.Global.{Vec}
use Rattle.lhg_math.specs.Tests.{AllOf, false_true}
use Rattle.lhg_num.specs.Marked.{Marked}
use Rattle.lhg_row.specs.Members.{all-append}
use Rattle.lhg_row.specs.System.{PlainSystem}
use Rattle.lhg_row.specs.Lists.{counted_pieces}
use Rattle.lhg_plant.specs.Invariants.{pieces_at}
use Rattle.lhg_union.specs.PolyLists.{lines_of, AllVars}
use Rattle.lhg_union.specs.Regions.{polys_of, polys_at, plain_region}
use Rattle.lhg_jump.proofs.RangeSteps.{lines-at}
use Rattle.lhg_jump.proofs.AwayCode.{vars-at}
use Rattle.lhg_forward.specs.declared.growth.Growth.{Growth}
use Rattle.lhg_forward.specs.Growth.{first_or, grown_unless, joined_at}
use Rattle.lhg_forward.specs.Views.{plain_growth}
use Rattle.lhg_forward.proofs.GrowthCode.{new_pushed}

-- what the code holds of two lists of lists for one place
pub record AreBothAt (n : ℕ) (xs ys : List (Vec PlainSystem)) (l : ℕ) (ps qs : List PlainSystem) : Type 0 where
  pub same : counted_pieces (lines_of ps ++ lines_of qs) ≡ joined_at (plain_region xs) (plain_region ys) l
  pub vars : AllVars n (ps ++ qs)

pub both_at : (n : ℕ) (xs ys : List (Vec PlainSystem)) (l : ℕ) → AllOf (λ ps. AllVars n ps.items) xs → AllOf (λ ps. AllVars n ps.items) ys → l < length xs → l < length ys → (x y : Vec PlainSystem) → x ≡ get_or xs l x → y ≡ get_or ys l y
    → (ps qs : List PlainSystem) → ps ≡ x.items → qs ≡ y.items → AreBothAt n xs ys l ps qs
both_at n xs ys l held others in_xs in_ys x y x_is y_is ps qs ps_are qs_are = record {
  same = ap (λ rs. counted_pieces (rs ++ lines_of qs)) (ap lines_of ps_are ∙ lines-at xs l x x_is in_xs)
      ∙ ap (λ rs. counted_pieces (pieces_at (plain_region xs) l ++ rs)) (ap lines_of qs_are ∙ lines-at ys l y y_is in_ys);
  vars = all-append (λ p. p.width ≡ n) ps qs (vars-at n xs l x ps ps_are x_is in_xs held) (vars-at n ys l y qs qs_are y_is in_ys others);
}

-- ---- one new piece
-- the location that was first
pub first_none : (o : Option ℕ) (b : Bool) (l : ℕ) → is_some o ≡ not b → b ≡ true → Some l ≡ first_or l o
first_none None b l e t = refl
first_none (Some k) true l e t = false_true (sym e)
first_none (Some k) false l e t = false_true t

pub first_some : (o : Option ℕ) (b : Bool) (l : ℕ) → is_some o ≡ not b → b ≡ false → o ≡ first_or l o
first_some (Some k) b l e t = refl
first_some None true l e t = false_true (sym t)
first_some None false l e t = false_true e

-- the growth with one piece more
pub pushed : (old : Growth) (new : List (Vec PlainSystem)) (o : Option ℕ) (k : ℕ) (p : PlainSystem) → polys_of new ≡ set (polys_of old.pieces.items) k (polys_at old.pieces.items k ++ p ∷ []) → o ≡ first_or k old.first
    → record { new = plain_region new; first = o } ≡ grown_unless (plain_growth old) k p.lines false
pushed old new o k p e f =
    ap (λ r. record { new = r; first = o }) (new_pushed old.pieces.items new k p e)
    ∙ ap (λ (q : Option ℕ). record { new = set (plain_region old.pieces.items) k (pieces_at (plain_region old.pieces.items) k ++ p.lines ∷ []); first = q }) f
