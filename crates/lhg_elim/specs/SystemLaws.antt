-- Why does elimination leave a list that trim leaves as it is?
use Rattle.std.specs.Prelude.{◌≡◌, ℕ, zero, suc, ◌+◌, ◌<◌}
use Rattle.std.proofs.Common.{sym, subst, arith}
use Rattle.lhg_num.specs.Arithmetic.{Arithmetic, IsLawful}
use Rattle.lhg_num.specs.Marked.{Marked}
use Rattle.lhg_row.specs.Piece.{PlainPiece}
use Rattle.lhg_row.specs.Width.{AllWide}
use Rattle.lhg_row.specs.System.{IsSystem}
use Rattle.lhg_row.specs.Trim.{IsTrimmed}
use Rattle.lhg_row.specs.TrimmedLaws.{trim-trimmed}
use Rattle.lhg_row.specs.NothingLaws.{eliminate-eliminated}
use Rattle.lhg_row.specs.WidthLaws.{eliminate-wide}
use Rattle.lhg_row.specs.Eliminate.{pair_at, without, eliminate, eliminate_last}

-- elimination of a variable leaves a trimmed list over one variable less
pub eliminate-system : (a : Arithmetic) (k m : ℕ) (rows : PlainPiece) → IsLawful a → k < suc m → AllWide (suc m) rows → IsSystem a m (eliminate a k rows).value
eliminate-system a k m rows laws h w =
    let list = (without a k rows (pair_at a k 0 rows).value).value in
    record {
      wide = eliminate-wide a k m rows laws h w;
      trimmed = subst (λ (e : Marked PlainPiece). IsTrimmed a e.value) (sym (eliminate-eliminated a k m rows h w)) (trim-trimmed a list laws);
    }

-- and elimination of all later ones a trimmed list over those that are kept
pub eliminate_last-system : (a : Arithmetic) (kept count n : ℕ) (rows : PlainPiece) → IsLawful a → n ≡ kept + count → IsSystem a n rows → IsSystem a kept (eliminate_last a kept count rows).value
eliminate_last-system a kept zero n rows laws e s = let f : n ≡ kept = omega arith in subst (λ m. IsSystem a m rows) f s
eliminate_last-system a kept (suc count) n rows laws e s =
    let f : n ≡ suc (kept + count) = omega arith in
    let w : AllWide (suc (kept + count)) rows = subst (λ m. AllWide m rows) f s.wide in
    eliminate_last-system a kept count (kept + count) (eliminate a (kept + count) rows).value laws (omega arith) (eliminate-system a (kept + count) (kept + count) rows laws (omega arith) w)
