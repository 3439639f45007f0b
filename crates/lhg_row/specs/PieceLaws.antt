-- Which laws do the operations on pieces and on lists of pieces obey?
use Rattle.std.specs.Prelude.{List, ◌≡◌, ℕ, ◌-◌, ◌≤◌, length}
use Rattle.lhg_num.specs.Arithmetic.{Arithmetic, IsLawful}
use Rattle.lhg_row.specs.Row.{PlainRow, PlainPoint}
use Rattle.lhg_row.specs.Piece.{PlainPiece, in_piece, in_some}
use Rattle.lhg_row.specs.Width.{AllWide}
use Rattle.lhg_row.specs.HasValue.{HasPoint, IsEmptiness}
use Rattle.lhg_row.specs.Pieces.{are_empty, entails, make, meet, closure, includes, project}
use Rattle.lhg_row.specs.Sample.{sample}
use Rattle.lhg_row.specs.Truths.{piece_truth, some_truth}
use Rattle.lhg_row.specs.Lists.{minus, covered, meet_lists}
use Rattle.lhg_row.specs.PieceFacts.{IsPointOf, AllOver, AllPolys, IsEntailment, IsMade, IsMeet, IsClosure, IsInclusion, IsProjection, IsDifference, IsIntersection, IsCovering}

-- what is made of rows and of one or two pieces, for every lawful type
pub record PieceLaws : Type 0 where
  pub are_empty : (a : Arithmetic) (n : ℕ) (rows : PlainPiece) → IsLawful a → AllWide n rows → IsEmptiness n rows (are_empty a n rows).value
  pub entails : (a : Arithmetic) (n : ℕ) (rows : PlainPiece) (r : PlainRow) → IsLawful a → AllWide n rows → length r.coefs ≡ n
      → IsEntailment n rows r (entails a n rows r).value
  pub make : (a : Arithmetic) (n : ℕ) (rows : PlainPiece) → IsLawful a → AllWide n rows → IsMade a n rows (make a n rows).value
  pub meet : (a : Arithmetic) (n : ℕ) (p q : PlainPiece) → IsLawful a → AllWide n p → AllWide n q → IsMeet a n p q (meet a n p q).value
  pub closure : (a : Arithmetic) (n : ℕ) (p : PlainPiece) → IsLawful a → AllWide n p → HasPoint n p → IsClosure a n p (closure a n p).value
  pub includes : (a : Arithmetic) (n : ℕ) (p q : PlainPiece) → IsLawful a → AllWide n p → AllWide n q → IsInclusion n p q (includes a n p q).value
  pub project : (a : Arithmetic) (n kept : ℕ) (rows : PlainPiece) → IsLawful a → kept ≤ n → AllWide n rows
      → IsProjection a kept (n - kept) rows (project a n kept rows).value

-- what is made of lists of pieces, for every lawful type
pub record ListLaws : Type 0 where
  pub difference : (a : Arithmetic) (n : ℕ) (ps qs : List PlainPiece) → IsLawful a → AllOver n ps → AllOver n qs → IsDifference n ps qs (minus a n ps qs).value
  pub difference_polys : (a : Arithmetic) (n : ℕ) (ps qs : List PlainPiece) → IsLawful a → AllPolys a n ps → AllOver n qs → AllPolys a n (minus a n ps qs).value
  pub cover : (a : Arithmetic) (n : ℕ) (ps qs : List PlainPiece) → IsLawful a → AllPolys a n ps → AllOver n qs → IsCovering n ps qs (covered a n ps qs).value
  pub intersection : (a : Arithmetic) (n : ℕ) (ps qs : List PlainPiece) → IsLawful a → AllOver n ps → AllOver n qs → IsIntersection n ps qs (meet_lists a n ps qs).value
  pub intersection_polys : (a : Arithmetic) (n : ℕ) (ps qs : List PlainPiece) → IsLawful a → AllOver n ps → AllOver n qs → AllPolys a n (meet_lists a n ps qs).value

-- whether a point is in a piece, and in some piece of a list, is told exactly
pub record MembershipLaw : Type 0 where
  pub piece : (a : Arithmetic) (rows : PlainPiece) (x : PlainPoint) → (piece_truth a rows x).value ≡ in_piece rows x
  pub some : (a : Arithmetic) (ps : List PlainPiece) (x : PlainPoint) → (some_truth a ps x).value ≡ in_some ps x

-- the sample of a piece of fractions lies in it
abbrev pub SampleLaw : Type 0
SampleLaw = (n : ℕ) (piece : PlainPiece) → AllWide n piece → HasPoint n piece → IsPointOf n piece (sample n piece).value
