-- Why are the lists of rows that minus leaves pieces, and why does covered tell exactly whether a list lies in another?
use Rattle.std.specs.Prelude.{◌≡◌, ℕ, Bool, true, false, not, ◌||◌, ◌&&◌, List, [], ◌∷◌, ◌++◌, Option, Some, None}
use Rattle.std.proofs.Common.{refl, sym, ap, ◌∙◌}
use Rattle.std.proofs.lemmas.Bool.{and_parts, not-true}
use Rattle.lhg_math.specs.Tests.{false_true, all_from_every}
use Rattle.lhg_num.specs.Arithmetic.{Arithmetic, IsLawful}
use Rattle.lhg_num.specs.Marked.{walk}
use Rattle.lhg_row.specs.Row.{holds_at}
use Rattle.lhg_row.specs.Piece.{PlainPiece, in_some}
use Rattle.lhg_row.specs.Moves.{negated}
use Rattle.lhg_row.specs.Width.{AllWide}
use Rattle.lhg_row.specs.Eliminate.{each_joined}
use Rattle.lhg_row.specs.Pieces.{make, meet}
use Rattle.lhg_row.specs.Lists.{listed, cut_off, apart_or_cut, minus_piece, minus_one, minus, is_nil, covered}
use Rattle.lhg_row.specs.PieceFacts.{IsPoly, AllOver, AllPolys, IsMade, IsDifference, IsCovering}
use Rattle.lhg_row.specs.EntailLaws.{more-wide, negated-wide}
use Rattle.lhg_row.specs.MakeLaws.{make-exact}
use Rattle.lhg_row.specs.MinusLaws.{minus-exact}
use Rattle.lhg_row.specs.Members.{all-append}

-- what is made, before a list of pieces, is a list of pieces
pub listed-polys : (a : Arithmetic) (n : ℕ) (rows : PlainPiece) (o : Option PlainPiece) (ps : List PlainPiece) → IsMade a n rows o → AllPolys a n ps → AllPolys a n (listed o ps)
listed-polys a n rows None ps h k = k
listed-polys a n rows (Some p) ps h k = (h.poly, k)

module _ (a : Arithmetic) (n : ℕ) (laws : IsLawful a) where
  cut_off-polys : (p q : PlainPiece) → AllWide n p → AllWide n q → AllPolys a n (cut_off a n p q).value
  cut_off-polys p [] v w = tt
  cut_off-polys p (r ∷ q) v w =
      let rows = p ++ negated r ∷ [] in
      listed-polys a n rows (make a n rows).value (cut_off a n (p ++ r ∷ []) q).value (make-exact a n rows laws (negated-wide n p r v w.0)) (cut_off-polys (p ++ r ∷ []) q (more-wide n p r v w.0) w.1)

  apart_or_cut-polys : (p q : PlainPiece) (o : Option PlainPiece) → IsPoly a n p → AllWide n q → AllPolys a n (apart_or_cut a n p q o).value
  apart_or_cut-polys p q (Some m) h w = cut_off-polys p q h.wide w
  apart_or_cut-polys p q None h w = (h, tt)

  -- what one piece leaves of another has points
  pub minus_piece-polys : (p q : PlainPiece) → IsPoly a n p → AllWide n q → AllPolys a n (minus_piece a n p q).value
  minus_piece-polys p q h w = apart_or_cut-polys p q (meet a n p q).value h w

  -- and what one piece leaves of a list
  pub minus_one-polys : (ps : List PlainPiece) (q : PlainPiece) → AllPolys a n ps → AllWide n q → AllPolys a n (minus_one a n ps q).value
  minus_one-polys [] q h w = tt
  minus_one-polys (p ∷ ps) q h w =
      all-append (IsPoly a n) (minus_piece a n p q).value (each_joined (λ s. minus_piece a n s q) ps).value (minus_piece-polys p q h.0 w) (minus_one-polys ps q h.1 w)

  walk-polys : (ps qs : List PlainPiece) → AllPolys a n ps → AllOver n qs → AllPolys a n (walk (minus_one a n) ps qs).value
  walk-polys ps [] h w = h
  walk-polys ps (q ∷ qs) h w = walk-polys (minus_one a n ps q).value qs (minus_one-polys ps q h w.0) w.1

-- what minus leaves of pieces are pieces
pub minus-polys : (a : Arithmetic) (n : ℕ) (ps qs : List PlainPiece) → IsLawful a → AllPolys a n ps → AllOver n qs → AllPolys a n (minus a n ps qs).value
unfolding minus
minus-polys a n ps qs laws h w = walk-polys a n laws ps qs h w

-- pieces are over n variables
pub polys-over : (a : Arithmetic) (n : ℕ) (ps : List PlainPiece) → AllPolys a n ps → AllOver n ps
polys-over a n [] h = tt
polys-over a n (p ∷ ps) h = (h.0.wide, polys-over a n ps h.1)

none_left : (b c : Bool) → false ≡ (b && not c) → b ≡ true → c ≡ true
none_left b true e h = refl
none_left true false e h = false_true e
none_left false false e h = h

-- a list of pieces has a member where some point is left, and else none is
pub covering : (a : Arithmetic) (n : ℕ) (ps qs rest : List PlainPiece) → AllPolys a n rest → IsDifference n ps qs rest → IsCovering n ps qs (is_nil rest)
covering a n ps qs [] h f = λ x l i. none_left (in_some ps x) (in_some qs x) (f x l) i
covering a n ps qs (p ∷ rest) h f =
    let x = h.0.point.point in
    let here : in_some (p ∷ rest) x ≡ true = ap (λ b. b || in_some rest x) (all_from_every (λ r. holds_at r x) p h.0.point.holds) in
    let s = and_parts (in_some ps x) (not (in_some qs x)) (sym (f x h.0.point.wide) ∙ here) in
    record { point = x; wide = h.0.point.wide; inside = s.0; outside = not-true (in_some qs x) s.1 }

-- covered is exact
pub covered-exact : (a : Arithmetic) (n : ℕ) (ps qs : List PlainPiece) → IsLawful a → AllPolys a n ps → AllOver n qs → IsCovering n ps qs (covered a n ps qs).value
covered-exact a n ps qs laws h w = covering a n ps qs (minus a n ps qs).value (minus-polys a n ps qs laws h w) (minus-exact a n ps qs laws (polys-over a n ps h) w)
