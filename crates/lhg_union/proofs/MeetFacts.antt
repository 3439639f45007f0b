-- What is exact of the pieces that two lists meet in?
use Rattle.std.proofs.Common.{◌≡◌, ℕ, ◌<◌, ◌≤◌, List, [], ◌∷◌, length, take, refl, sym, ◌∙◌, subst, arith}
use Rattle.lhg_num.specs.Arithmetic.{Arithmetic, IsLawful}
use Rattle.lhg_row.specs.Piece.{PlainPiece}
use Rattle.lhg_row.specs.System.{PlainSystem}
use Rattle.lhg_row.specs.Lists.{meet_lists}
use Rattle.lhg_row.specs.PieceFacts.{IsPoly, AllOver, AllPolys, IsIntersection}
use Rattle.lhg_row.specs.CoveredLaws.{polys-over}
use Rattle.lhg_row.specs.MeetListsLaws.{meet_lists-exact, meet_lists-polys}
use Rattle.lhg_union.specs.PolyLists.{lines_of, AllVars, ArePolys}
use Rattle.lhg_union.proofs.ListFacts.{all_taken, polys_over, polys_back}

-- no list meets in nothing
none_met : (a : Arithmetic) (n : ℕ) (qs : List PlainPiece) → (meet_lists a n [] qs).value ≡ []
unfolding meet_lists
none_met a n qs = refl

-- the pieces are over n variables
over : (a : Arithmetic) (n i : ℕ) (ps : List PlainSystem) → AllVars n ps → length ps ≤ i → ArePolys a (take i ps) → AllOver n (lines_of ps)
over a n i ps v h k = polys-over a n (lines_of ps) (polys_over a n ps v (all_taken (λ p. IsPoly a p.width p.lines) ps i h k))

-- the answer has the points of both lists
pub met-points : (a : Arithmetic) (n : ℕ) (ps qs out : List PlainSystem) (i : ℕ) → IsLawful a → AllVars n ps → AllVars n qs → length ps ≤ i → lines_of out ≡ (meet_lists a n (lines_of ps) (lines_of qs)).value
    → ArePolys a (take i ps) → (0 < i → ArePolys a qs) → IsIntersection n (lines_of ps) (lines_of qs) (lines_of out)
met-points a n [] qs out i laws v w h is k f = subst (IsIntersection n [] (lines_of qs)) (sym (is ∙ none_met a n (lines_of qs))) (λ x e. refl)
met-points a n (p ∷ ps) qs out i laws v w h is k f =
    subst (IsIntersection n (lines_of (p ∷ ps)) (lines_of qs)) (sym is)
    (meet_lists-exact a n (lines_of (p ∷ ps)) (lines_of qs) laws (over a n i (p ∷ ps) v h k) (polys-over a n (lines_of qs) (polys_over a n qs w (f (omega arith)))))

-- and its members are pieces
pub met-polys : (a : Arithmetic) (n : ℕ) (ps qs out : List PlainSystem) (i : ℕ) → IsLawful a → AllVars n ps → AllVars n qs → AllVars n out → length ps ≤ i → lines_of out ≡ (meet_lists a n (lines_of ps) (lines_of qs)).value
    → ArePolys a (take i ps) → (0 < i → ArePolys a qs) → ArePolys a out
met-polys a n [] qs out i laws v w u h is k f = polys_back a n out u (subst (AllPolys a n) (sym (is ∙ none_met a n (lines_of qs))) tt)
met-polys a n (p ∷ ps) qs out i laws v w u h is k f =
    polys_back a n out u
    (subst (AllPolys a n) (sym is) (meet_lists-polys a n (lines_of (p ∷ ps)) (lines_of qs) laws (over a n i (p ∷ ps) v h k) (polys-over a n (lines_of qs) (polys_over a n qs w (f (omega arith))))))
