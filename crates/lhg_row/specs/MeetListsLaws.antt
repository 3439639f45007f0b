-- Why has meet_lists exactly the points of some piece of each list?
use Rattle.std.specs.Prelude.{◌≡◌, ℕ, ◌||◌, ◌&&◌, List, [], ◌∷◌, ◌++◌, length}
use Rattle.std.proofs.Common.{refl, sym, ap, ◌∙◌}
use Rattle.std.proofs.Math.Bool.{and-false, and-or_distrib_left, and-or_distrib_right}
use Rattle.lhg_num.specs.Arithmetic.{Arithmetic, IsLawful}
use Rattle.lhg_row.specs.Row.{PlainPoint}
use Rattle.lhg_row.specs.Piece.{PlainPiece, in_piece, in_some}
use Rattle.lhg_row.specs.Width.{AllWide}
use Rattle.lhg_row.specs.WidthLaws.{append-wide}
use Rattle.lhg_row.specs.Eliminate.{each_joined}
use Rattle.lhg_row.specs.EliminateLaws.{in_piece-append}
use Rattle.lhg_row.specs.Pieces.{meet}
use Rattle.lhg_row.specs.Lists.{meet_each, meet_lists}
use Rattle.lhg_row.specs.PieceFacts.{IsPoly, AllOver, AllPolys, IsIntersection}
use Rattle.lhg_row.specs.MakeLaws.{make-exact}
use Rattle.lhg_row.specs.MinusLaws.{in_some-append, in_option-made, in_some-listed}
use Rattle.lhg_row.specs.CoveredLaws.{listed-polys}
use Rattle.lhg_row.specs.Members.{all-append}

module _ (a : Arithmetic) (n : ℕ) (laws : IsLawful a) where
  -- the meets of one piece with each of a list
  pub meet_each-points : (p : PlainPiece) (qs : List PlainPiece) (x : PlainPoint) → length x ≡ n → AllWide n p → AllOver n qs → in_some (meet_each a n p qs).value x ≡ (in_piece p x && in_some qs x)
  meet_each-points p [] x e v w = sym (and-false (in_piece p x))
  meet_each-points p (q ∷ qs) x e v w =
      let o = (meet a n p q).value in
      let rest = (meet_each a n p qs).value in
      in_some-listed o rest x
      ∙ ap (λ b. b || in_some rest x) (in_option-made a n (p ++ q) o x e (make-exact a n (p ++ q) laws (append-wide n p q v w.0)) ∙ in_piece-append p q x)
      ∙ ap (λ b. (in_piece p x && in_piece q x) || b) (meet_each-points p qs x e v w.1)
      ∙ sym (and-or_distrib_left (in_piece p x) (in_piece q x) (in_some qs x))

  -- are pieces
  pub meet_each-polys : (p : PlainPiece) (qs : List PlainPiece) → AllWide n p → AllOver n qs → AllPolys a n (meet_each a n p qs).value
  meet_each-polys p [] v w = tt
  meet_each-polys p (q ∷ qs) v w = listed-polys a n (p ++ q) (meet a n p q).value (meet_each a n p qs).value (make-exact a n (p ++ q) laws (append-wide n p q v w.0)) (meet_each-polys p qs v w.1)

  all_met : (ps qs : List PlainPiece) (x : PlainPoint) → length x ≡ n → AllOver n ps → AllOver n qs
      → in_some (each_joined (λ p. meet_each a n p qs) ps).value x ≡ (in_some ps x && in_some qs x)
  all_met [] qs x e v w = refl
  all_met (p ∷ ps) qs x e v w =
      let rest = (each_joined (λ s. meet_each a n s qs) ps).value in
      in_some-append (meet_each a n p qs).value rest x
      ∙ ap (λ b. b || in_some rest x) (meet_each-points p qs x e v.0 w)
      ∙ ap (λ b. (in_piece p x && in_some qs x) || b) (all_met ps qs x e v.1 w)
      ∙ sym (and-or_distrib_right (in_piece p x) (in_some ps x) (in_some qs x))

  all_polys : (ps qs : List PlainPiece) → AllOver n ps → AllOver n qs → AllPolys a n (each_joined (λ p. meet_each a n p qs) ps).value
  all_polys [] qs v w = tt
  all_polys (p ∷ ps) qs v w =
      all-append (IsPoly a n) (meet_each a n p qs).value (each_joined (λ s. meet_each a n s qs) ps).value (meet_each-polys p qs v.0 w) (all_polys ps qs v.1 w)

-- meet_lists is exact
pub meet_lists-exact : (a : Arithmetic) (n : ℕ) (ps qs : List PlainPiece) → IsLawful a → AllOver n ps → AllOver n qs → IsIntersection n ps qs (meet_lists a n ps qs).value
unfolding meet_lists
meet_lists-exact a n ps qs laws v w = λ x e. all_met a n laws ps qs x e v w

-- its members are pieces
pub meet_lists-polys : (a : Arithmetic) (n : ℕ) (ps qs : List PlainPiece) → IsLawful a → AllOver n ps → AllOver n qs → AllPolys a n (meet_lists a n ps qs).value
unfolding meet_lists
meet_lists-polys a n ps qs laws v w = all_polys a n laws ps qs v w
