-- Steps of the loop that cuts a piece off, and what is left where two pieces have no common point.
use Rattle.std.proofs.Common.{◌≡◌, ℕ, ◌+◌, ◌<◌, List, [], ◌∷◌, ◌++◌, length, drop, get_or, Bool, true, false, Option, refl, sym, ap, ◌∙◌, subst}
use Rattle.lhg_num.specs.Arithmetic.{Arithmetic}
use Rattle.lhg_num.specs.Marked.{Marked, and_then, valued, IsRest}
use Rattle.lhg_num.specs.MarkedLaws.{IsPart, IsBuilt, and_then-part, and_then-rest, part_part}
use Rattle.lhg_num.specs.PartLaws.{then-part}
use Rattle.lhg_math.specs.ListFacts.{drop_cons}
use Rattle.lhg_row.specs.Row.{PlainRow}
use Rattle.lhg_row.specs.Piece.{PlainPiece}
use Rattle.lhg_row.specs.Moves.{negated}
use Rattle.lhg_row.specs.Trim.{trim}
use Rattle.lhg_row.specs.Eliminate.{is_empty}
use Rattle.lhg_row.specs.Pieces.{are_empty, made, make, meet}
use Rattle.lhg_row.specs.Lists.{listed, cut_off, apart_or_cut, minus_piece}
use Rattle.lhg_row.specs.System.{PlainSystem}
use Rattle.lhg_row.specs.Width.{AllWide}
use Rattle.lhg_row.specs.EntailLaws.{more-wide}
use Rattle.lhg_row.specs.MakeLaws.{make-empty, make-thin}
use Rattle.lhg_union.specs.PolyLists.{lines_of, AllVars}
use Rattle.lhg_union.proofs.ListFacts.{listed-append}
use Rattle.lhg_union.proofs.GatherSteps.{more-part, more-step}

-- ---- cut_off
module _ (a : Arithmetic) (n : ℕ) (base q : PlainPiece) (i : ℕ) (r : PlainRow) (r_is : r ≡ get_or q i r) (in_q : i < length q) (whole : Marked (List PlainPiece)) (out : List PlainPiece)
    (b : IsBuilt whole out (cut_off a n base (drop i q))) where
  abbrev outside : Marked (Option PlainPiece)
  outside = make a n (base ++ negated r ∷ [])

  here : IsBuilt whole out (and_then outside (λ o. valued (λ ps. listed o [] ++ ps) (cut_off a n (base ++ r ∷ []) (drop (i + 1) q))))
  here =
      let rest = cut_off a n (base ++ r ∷ []) (drop (i + 1) q) in
      let f : IsBuilt whole out (and_then outside (λ o. valued (listed o) rest)) = subst (λ rs. IsBuilt whole out (cut_off a n base rs)) (drop_cons q i r r_is in_q) b in
      record { same = ap (λ ps. out ++ ps) (sym (listed-append outside.value rest.value)) ∙ f.same; part = record { wide = f.part.wide; rows = f.part.rows; pieces = f.part.pieces } }

  -- the marks of the next piece
  pub cut-part : IsPart whole outside
  cut-part = more-part whole out outside (λ o. listed o []) (cut_off a n (base ++ r ∷ []) (drop (i + 1) q)) here

  -- the next piece
  pub cut-step : (more : List PlainPiece) (longer : PlainPiece) → more ≡ out ++ listed outside.value [] → longer ≡ base ++ r ∷ [] → IsBuilt whole more (cut_off a n longer (drop (i + 1) q))
  cut-step more longer e f =
      let t = more-step whole out outside (λ o. listed o []) (cut_off a n (base ++ r ∷ []) (drop (i + 1) q)) here outside.value refl in
      subst (λ rs. IsBuilt whole more (cut_off a n rs (drop (i + 1) q))) (sym f) (subst (λ ps. IsBuilt whole ps (cut_off a n (base ++ r ∷ []) (drop (i + 1) q))) (sym e) t)

-- ---- minus_piece
-- the marks of the test for a point are among those of make
make-empty_part : (a : Arithmetic) (n : ℕ) (rows : PlainPiece) → IsPart (make a n rows) (are_empty a n rows)
unfolding make
make-empty_part a n rows =
    then-part (trim a rows) (λ rs. and_then (is_empty a n rs) (made a n rs)) (is_empty a n) (and_then-part (is_empty a n (trim a rows).value) (made a n (trim a rows).value))

module _ (a : Arithmetic) (n : ℕ) (p q : PlainPiece) where
  -- the marks of the test for a common point
  pub apart-part : IsPart (minus_piece a n p q) (are_empty a n (p ++ q))
  apart-part = part_part (minus_piece a n p q) (meet a n p q) (are_empty a n (p ++ q)) (and_then-part (meet a n p q) (apart_or_cut a n p q)) (make-empty_part a n (p ++ q))

  -- where there is none the piece is left
  pub apart-value : (b : Bool) → b ≡ (are_empty a n (p ++ q)).value → b ≡ true → p ∷ [] ≡ (minus_piece a n p q).value
  apart-value b e k = sym (ap (λ o. (apart_or_cut a n p q o).value) (make-empty a n (p ++ q) (sym e ∙ k)))

  -- and else what is cut off
  pub cut-rest : (b : Bool) → b ≡ (are_empty a n (p ++ q)).value → b ≡ false → IsRest (minus_piece a n p q) (cut_off a n p q)
  cut-rest b e k =
      let ts = (trim a (p ++ q)).value in
      subst (λ o. IsRest (minus_piece a n p q) (apart_or_cut a n p q o)) (make-thin a n (p ++ q) (sym e ∙ k)) (and_then-rest (meet a n p q) (apart_or_cut a n p q))

-- ---- the loop of cut_off
-- what is cut off so far, the rows that later pieces satisfy, and the widths of both
pub record IsCutting (a : Arithmetic) (n : ℕ) (p q base : PlainPiece) (out : List PlainSystem) (i : ℕ) : Type 0 where
  pub built : IsBuilt (cut_off a n p q) (lines_of out) (cut_off a n base (drop i q))
  pub wide : AllWide n base
  pub vars : AllVars n out

-- one row more
pub cutting-step : (a : Arithmetic) (n : ℕ) (p q base : PlainPiece) (out : List PlainSystem) (i : ℕ) (r : PlainRow) → r ≡ get_or q i r → i < length q → length r.coefs ≡ n → IsCutting a n p q base out i
    → (more : List PlainSystem) (longer : PlainPiece) → lines_of more ≡ lines_of out ++ listed (make a n (base ++ negated r ∷ [])).value [] → longer ≡ base ++ r ∷ [] → AllVars n more → IsCutting a n p q longer more (i + 1)
cutting-step a n p q base out i r r_is in_q w h more longer e f v = record {
  built = cut-step a n base q i r r_is in_q (cut_off a n p q) (lines_of out) h.built (lines_of more) longer e f;
  wide = subst (AllWide n) (sym f) (more-wide n base r h.wide w);
  vars = v;
}
