-- Steps of an elimination: what is left of the rows, and then its trim.
use Rattle.std.proofs.Common.{◌≡◌, ℕ, suc, ◌-◌, ◌<◌, sym, ◌∙◌, subst, arith, refl}
use Rattle.std.proofs.Math.Bool.{or_assoc}
use Rattle.lhg_num.specs.Arithmetic.{Arithmetic}
use Rattle.lhg_num.specs.Marked.{Marked, and_then, each, IsRest}
use Rattle.lhg_num.specs.MarkedLaws.{IsPart, and_then-part, and_then-rest}
use Rattle.lhg_num.specs.PartLaws.{then-part, then-then}
use Rattle.lhg_row.specs.Piece.{PlainPiece}
use Rattle.lhg_row.specs.Width.{AllWide, HasVariable}
use Rattle.lhg_row.specs.Trim.{counted, canon, settled, trim}
use Rattle.lhg_row.specs.Eliminate.{pair_at, without, eliminate}
use Rattle.lhg_row.specs.NothingLaws.{eliminate-eliminated}
use Rattle.lhg_row.specs.WidthLaws.{without-wide}

-- the list that is trimmed is counted
counted_part : (a : Arithmetic) (rows : PlainPiece) → IsPart (trim a rows) (counted rows)
unfolding trim
counted_part a rows = and_then-part (counted rows) (λ rs. and_then (each (canon a) rs) (settled a))

-- ---- the steps
-- what is left of the rows before it is trimmed
abbrev pub left : Arithmetic → ℕ → PlainPiece → Marked PlainPiece
left a k rows = and_then (pair_at a k 0 rows) (without a k rows)

module _ (a : Arithmetic) (k n : ℕ) (rows : PlainPiece) (h : k < n) (w : AllWide n rows) where
  -- there is a variable
  some : n ≡ suc (n - 1)
  some = omega arith

  -- the rows have the variable
  pub has_variable : HasVariable k rows
  has_variable = record { width = n; there = h; wide = w }

  -- an elimination is what is left of the rows, and then its trim
  eliminate-is : eliminate a k rows ≡ and_then (left a k rows) (trim a)
  eliminate-is = eliminate-eliminated a k (n - 1) rows (omega arith) (subst (λ m. AllWide m rows) some w) ∙ sym (then-then (pair_at a k 0 rows) (without a k rows) (trim a))

  -- it has one variable less
  pub left-wide : AllWide (n - 1) (left a k rows).value
  left-wide = without-wide a k (n - 1) rows (omega arith) (subst (λ m. AllWide m rows) some w)

  -- its marks, and that it is counted, are among the marks of the elimination
  pub left-part : IsPart (eliminate a k rows) (and_then (left a k rows) counted)
  left-part = subst (λ (e : Marked PlainPiece). IsPart e (and_then (left a k rows) counted)) (sym eliminate-is) (then-part (left a k rows) (trim a) counted (counted_part a (left a k rows).value))

  -- its trim is left
  pub left-rest : IsRest (eliminate a k rows) (trim a (left a k rows).value)
  left-rest = subst (λ (e : Marked PlainPiece). IsRest e (trim a (left a k rows).value)) (sym eliminate-is) (and_then-rest (left a k rows) (trim a))
