-- Which laws do the operations on rows and on lists of rows obey?
use Rattle.std.specs.Prelude.{◌≡◌, ◌≢◌, ℕ, suc, ◌<◌, not, List, ◌++◌, length, remove, All, AllPairs, ◌+◌}
use Rattle.lhg_math.specs.Number.{Number}
use Rattle.lhg_num.specs.Arithmetic.{Arithmetic, IsLawful}
use Rattle.lhg_row.specs.Row.{PlainRow, PlainPoint, holds_at}
use Rattle.lhg_row.specs.Piece.{PlainPiece, in_piece}
use Rattle.lhg_row.specs.Values.{truth, shift}
use Rattle.lhg_row.specs.Moves.{negated, moved, renamed, picked}
use Rattle.lhg_row.specs.PutIn.{put_in, put_in_each}
use Rattle.lhg_row.specs.Trim.{trim, IsTrimmed, IsSettledOrNothing}
use Rattle.lhg_row.specs.Width.{AllWide, IsTidy}
use Rattle.lhg_row.specs.Column.{coef_at}
use Rattle.lhg_row.specs.Combine.{comb}
use Rattle.lhg_row.specs.Combination.{AreOpposed, IsCombination}
use Rattle.lhg_row.specs.Eliminate.{eliminate, eliminate_last, is_empty}
use Rattle.lhg_row.specs.HasValue.{IsElimination, IsLastElimination, IsEmptiness}
use Rattle.lhg_row.specs.NothingLaws.{eliminated}

-- the truth that is formed is the truth, and each operation on one row gives the points that it should
pub record RowLaws : Type 0 where
  pub truth : (a : Arithmetic) (r : PlainRow) (x : PlainPoint) → (truth a r x).value ≡ holds_at r x
  pub negate : (r : PlainRow) (x : PlainPoint) → holds_at (negated r) x ≡ not (holds_at r x)
  pub shift : (a : Arithmetic) (r : PlainRow) (by : PlainPoint) (m : Number) (x : PlainPoint) → length x ≡ length by
      → holds_at (shift a r by m).value x ≡ holds_at r (moved x m by)
  pub rename : (places : List ℕ) (n : ℕ) (r : PlainRow) (x : PlainPoint) → length places ≡ length r.coefs → All (λ p. p < n) places → AllPairs (λ p q. p ≢ q) places
      → length x ≡ n → holds_at (renamed places n r) x ≡ holds_at r (picked places x)
  pub put_in : (a : Arithmetic) (x : PlainPoint) (r : PlainRow) (y : PlainPoint) → holds_at (put_in a x r).value y ≡ holds_at r (x ++ y)
  pub put_in_wide : (a : Arithmetic) (x : PlainPoint) (m n : ℕ) (rows : PlainPiece) → length x ≡ m → AllWide (m + n) rows → AllWide n (put_in_each a x rows).value

-- trim keeps the points and the width, and leaves a tidy list that is its own trim; a list that is its own trim is 0 < 0 alone, or
-- its rows are scaled, have a variable and are of different directions; and it stays its own trim without one of its rows
pub record TrimLaws : Type 0 where
  pub points : (a : Arithmetic) (rows : PlainPiece) (x : PlainPoint) → IsLawful a → in_piece (trim a rows).value x ≡ in_piece rows x
  pub wide : (a : Arithmetic) (n : ℕ) (rows : PlainPiece) → IsLawful a → AllWide n rows → AllWide n (trim a rows).value
  pub tidy : (a : Arithmetic) (rows : PlainPiece) → IsTidy (trim a rows).value
  pub trimmed : (a : Arithmetic) (rows : PlainPiece) → IsLawful a → IsTrimmed a (trim a rows).value
  pub settled : (a : Arithmetic) (rows : PlainPiece) → IsLawful a → IsTrimmed a rows → IsSettledOrNothing a rows
  pub part : (a : Arithmetic) (rows : PlainPiece) (i : ℕ) → IsLawful a → i < length rows → IsTrimmed a rows → IsTrimmed a (remove rows i)

-- the combination of two rows with opposite signs at a variable says what some value of the variable would say
abbrev pub CombLaw : Type 0
CombLaw = (a : Arithmetic) (k : ℕ) (r s : PlainRow) → length r.coefs ≡ length s.coefs → k < length r.coefs → AreOpposed (coef_at k r) (coef_at k s)
    → IsCombination k r s (comb a r s k).value

-- eliminate is exact and leaves a tidy list over one variable less; its first step is no exception; all later variables are eliminated exactly
pub record EliminateLaws : Type 0 where
  pub exact : (a : Arithmetic) (k n : ℕ) (rows : PlainPiece) → IsLawful a → k < n → AllWide n rows → IsElimination n k rows (eliminate a k rows).value
  pub wide : (a : Arithmetic) (k m : ℕ) (rows : PlainPiece) → IsLawful a → k < suc m → AllWide (suc m) rows → AllWide m (eliminate a k rows).value
  pub tidy : (a : Arithmetic) (k m : ℕ) (rows : PlainPiece) → k < suc m → AllWide (suc m) rows → IsTidy (eliminate a k rows).value
  pub last : (a : Arithmetic) (kept count n : ℕ) (rows : PlainPiece) → IsLawful a → n ≡ kept + count → AllWide n rows → IsLastElimination kept count rows (eliminate_last a kept count rows).value
  pub nothing : (a : Arithmetic) (k m : ℕ) (rows : PlainPiece) → k < suc m → AllWide (suc m) rows → eliminate a k rows ≡ eliminated a k rows

-- is_empty is exact on tidy lists
abbrev pub EmptyLaw : Type 0
EmptyLaw = (a : Arithmetic) (n : ℕ) (rows : PlainPiece) → IsLawful a → AllWide n rows → IsTidy rows → IsEmptiness n rows (is_empty a n rows).value
