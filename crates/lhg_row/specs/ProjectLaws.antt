-- Why has project exactly the points that some values of the later variables complete?
use Rattle.std.specs.Prelude.{◌≡◌, ℕ, ◌+◌, ◌-◌, ◌≤◌, Option, Some, None}
use Rattle.std.proofs.Common.{sym, ◌∙◌, arith}
use Rattle.lhg_num.specs.Arithmetic.{Arithmetic, IsLawful}
use Rattle.lhg_row.specs.Piece.{PlainPiece}
use Rattle.lhg_row.specs.PieceLemmas.{in_piece_is}
use Rattle.lhg_row.specs.Width.{AllWide}
use Rattle.lhg_row.specs.Eliminate.{eliminate_last}
use Rattle.lhg_row.specs.Pieces.{make, project}
use Rattle.lhg_row.specs.PieceFacts.{IsMade, IsProjection}
use Rattle.lhg_row.specs.LastLaws.{eliminate_last-exact, eliminate_last-wide}
use Rattle.lhg_row.specs.MakeLaws.{make-exact}
use Rattle.lhg_row.specs.HasValue.{IsLastElimination}

-- the piece of what is left has the points that some values of the eliminated variables complete
pub projected : (a : Arithmetic) (kept count : ℕ) (rows left : PlainPiece) (o : Option PlainPiece) → IsLastElimination kept count rows left → IsMade a kept left o → IsProjection a kept count rows o
projected a kept count rows left None same f = λ x l c. f x l ((same x l).1 c)
projected a kept count rows left (Some q) same f = record {
  points = λ x l. (
    λ i. (same x l).0 ((in_piece_is left x).1 (sym (f.points x l) ∙ (in_piece_is q x).0 i)),
    λ c. (in_piece_is q x).1 (f.points x l ∙ (in_piece_is left x).0 ((same x l).1 c)),
  );
  poly = f.poly;
}

-- project is exact
pub project-exact : (a : Arithmetic) (n kept : ℕ) (rows : PlainPiece) → IsLawful a → kept ≤ n → AllWide n rows → IsProjection a kept (n - kept) rows (project a n kept rows).value
project-exact a n kept rows laws h w =
    let count = n - kept in
    let e : n ≡ kept + count = omega (arith, h) in
    let left = (eliminate_last a kept count rows).value in
    projected a kept count rows left (make a kept left).value (λ x l. eliminate_last-exact a kept count n rows x laws e w l) (make-exact a kept left laws (eliminate_last-wide a kept count n rows laws e w))
