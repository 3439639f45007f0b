-- Why are meet, closure and includes exact?
use Rattle.std.specs.Prelude.{◌≡◌, ℕ, Bool, true, false, ◌&&◌, [], ◌∷◌, ◌++◌, map, Option, Some, None}
use Rattle.std.proofs.Common.{refl, sym, ap, ◌∙◌}
use Rattle.lhg_math.specs.Tests.{all_of, every_from_all, all_from_every}
use Rattle.lhg_num.specs.Arithmetic.{Arithmetic, IsLawful}
use Rattle.lhg_row.specs.Row.{PlainRow, PlainPoint, holds_at, relaxed}
use Rattle.lhg_row.specs.Piece.{PlainPiece, InPiece, in_piece, InClosure}
use Rattle.lhg_row.specs.PieceLemmas.{piece_closure}
use Rattle.lhg_row.specs.Width.{AllWide}
use Rattle.lhg_row.specs.HasValue.{HasPoint}
use Rattle.lhg_row.specs.WidthLaws.{append-wide}
use Rattle.lhg_row.specs.EliminateLaws.{in_piece-append}
use Rattle.lhg_row.specs.Pieces.{entails, meet, closure, includes}
use Rattle.lhg_row.specs.PieceFacts.{IsEntailment, IsMade, IsMeet, IsClosure, IsInclusion}
use Rattle.lhg_row.specs.EntailLaws.{entails-exact}
use Rattle.lhg_row.specs.MakeLaws.{make-exact}

-- ---- meet
-- two lists together are met where both are
pub in_piece-both : (p q : PlainPiece) (x : PlainPoint) → InPiece p x → InPiece q x → InPiece (p ++ q) x
in_piece-both [] q x h k = k
in_piece-both (r ∷ p) q x h k = (h.0, in_piece-both p q x h.1 k)

-- meet is exact
pub meet-exact : (a : Arithmetic) (n : ℕ) (p q : PlainPiece) → IsLawful a → AllWide n p → AllWide n q → IsMeet a n p q (meet a n p q).value
meet-exact a n p q laws v w = go (meet a n p q).value (make-exact a n (p ++ q) laws (append-wide n p q v w))
  where
    go : (o : Option PlainPiece) → IsMade a n (p ++ q) o → IsMeet a n p q o
    go None h = λ x e i j. h x e (in_piece-both p q x i j)
    go (Some piece) h = record { points = λ x e. h.points x e ∙ in_piece-append p q x; poly = h.poly }

-- ---- closure
relaxed-holds : (p : PlainPiece) (x : PlainPoint) → in_piece (map relaxed p) x ≡ all_of (λ r. holds_at (relaxed r) x) p
relaxed-holds [] x = refl
relaxed-holds (r ∷ p) x = ap (λ b. holds_at (relaxed r) x && b) (relaxed-holds p x)

-- relaxed rows have the width of the rows
pub relaxed-wide : (n : ℕ) (p : PlainPiece) → AllWide n p → AllWide n (map relaxed p)
relaxed-wide n [] w = tt
relaxed-wide n (r ∷ p) w = (w.0, relaxed-wide n p w.1)

-- the relaxed rows hold in the closure
pub relaxed-in : (p : PlainPiece) (x : PlainPoint) → InClosure p x → InPiece (map relaxed p) x
relaxed-in [] x h = tt
relaxed-in (r ∷ p) x h = (h.0, relaxed-in p x h.1)

-- closure is exact, and a piece with a point has one
pub closure-exact : (a : Arithmetic) (n : ℕ) (p : PlainPiece) → IsLawful a → AllWide n p → HasPoint n p → IsClosure a n p (closure a n p).value
closure-exact a n p laws w point = go (closure a n p).value (make-exact a n (map relaxed p) laws (relaxed-wide n p w))
  where
    go : (o : Option PlainPiece) → IsMade a n (map relaxed p) o → IsClosure a n p o
    go None h = h point.point point.wide (relaxed-in p point.point (piece_closure p point.point point.holds))
    go (Some piece) h = record {
      points = λ x e. (
        λ i. every_from_all (λ r. holds_at (relaxed r) x) p (sym (relaxed-holds p x) ∙ sym (h.points x e) ∙ all_from_every (λ r. holds_at r x) piece i),
        λ i. every_from_all (λ r. holds_at r x) piece (h.points x e ∙ relaxed-holds p x ∙ all_from_every (λ r. holds_at (relaxed r) x) p i),
      );
      poly = h.poly;
    }

-- ---- includes
row_included : (n : ℕ) (r : PlainRow) (p q : PlainPiece) (b c : Bool) → IsEntailment n q r b → IsInclusion n p q c → IsInclusion n (r ∷ p) q (b && c)
row_included n r p q true true e h = λ x l i. (e x l i, h x l i)
row_included n r p q true false e h = record { point = h.point; wide = h.wide; inside = h.inside; outside = λ k. h.outside k.1 }
row_included n r p q false c e h = record { point = e.point; wide = e.wide; inside = e.inside; outside = λ k. e.fails k.0 }

-- includes is exact
pub includes-exact : (a : Arithmetic) (n : ℕ) (p q : PlainPiece) → IsLawful a → AllWide n p → AllWide n q → IsInclusion n p q (includes a n p q).value
includes-exact a n [] q laws v w = λ x l h. tt
includes-exact a n (r ∷ p) q laws v w =
    row_included n r p q (entails a n q r).value (includes a n p q).value (entails-exact a n q r laws w v.0) (includes-exact a n p q laws v.1 w)
