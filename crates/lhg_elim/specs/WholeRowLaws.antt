-- What do callers need to know of elimination over rows that stand for others?
use Rattle.std.specs.Prelude.{◌≡◌, ℕ, suc, ◌+◌, ◌<◌}
use Rattle.lhg_num.specs.Arithmetic.{Arithmetic, IsLawful}
use Rattle.lhg_row.specs.Piece.{PlainPiece}
use Rattle.lhg_row.specs.Width.{AllWide}
use Rattle.lhg_row.specs.System.{IsSystem}
use Rattle.lhg_row.specs.Trim.{trim, IsTrimmed}
use Rattle.lhg_row.specs.Eliminate.{eliminate, eliminate_last, is_empty}
use Rattle.lhg_elim.specs.Alike.{AllAlike}
use Rattle.lhg_elim.specs.Turned.{AllTurned}

-- over two number types, trim and elimination make alike lists of alike lists, both find the same lists empty, and both have
-- lists past the limit together; what is left is a trimmed list; and a trimmed list is what the rows alike to its own become when they are turned back
pub record WholeRowLaws : Type 0 where
  pub trimmed : (a w : Arithmetic) → IsLawful a → IsLawful w → (rs ss : PlainPiece) → AllAlike a rs ss → AllAlike a (trim a rs).value (trim w ss).value
  pub eliminated : (a w : Arithmetic) (k : ℕ) → IsLawful a → IsLawful w → (rs ss : PlainPiece) → AllAlike a rs ss → AllAlike a (eliminate a k rs).value (eliminate w k ss).value
  pub last_eliminated : (a w : Arithmetic) (kept count : ℕ) → IsLawful a → IsLawful w → (rs ss : PlainPiece) → AllAlike a rs ss → AllAlike a (eliminate_last a kept count rs).value (eliminate_last w kept count ss).value
  pub emptiness : (a w : Arithmetic) (n : ℕ) → IsLawful a → IsLawful w → (rs ss : PlainPiece) → AllAlike a rs ss → (is_empty w n ss).value ≡ (is_empty a n rs).value
  pub long : (a w : Arithmetic) (k : ℕ) → IsLawful a → (rs ss : PlainPiece) → AllAlike a rs ss → (eliminate w k ss).rows ≡ (eliminate a k rs).rows
  pub last_long : (a w : Arithmetic) (kept count : ℕ) → IsLawful a → IsLawful w → (rs ss : PlainPiece) → AllAlike a rs ss → (eliminate_last w kept count ss).rows ≡ (eliminate_last a kept count rs).rows
  pub system : (a : Arithmetic) (k m : ℕ) (rows : PlainPiece) → IsLawful a → k < suc m → AllWide (suc m) rows → IsSystem a m (eliminate a k rows).value
  pub last_system : (a : Arithmetic) (kept count n : ℕ) (rows : PlainPiece) → IsLawful a → n ≡ kept + count → IsSystem a n rows → IsSystem a kept (eliminate_last a kept count rows).value
  pub back : (a : Arithmetic) (qs ss rs : PlainPiece) → IsLawful a → IsTrimmed a qs → AllAlike a qs ss → AllTurned a ss rs → rs ≡ qs
