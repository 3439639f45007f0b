-- What does it say that a trimmed list over no variable has a row?
use Rattle.std.proofs.Common.{◌≡◌, Bool, true, false, not, [], ◌∷◌, length, refl, sym, ap, ◌∙◌, subst}
use Rattle.std.specs.Bool.{◌==◌}
use Rattle.lhg_math.specs.Tests.{by_bool, false_true}
use Rattle.lhg_num.specs.Arithmetic.{Arithmetic}
use Rattle.lhg_row.specs.Piece.{PlainPiece}
use Rattle.lhg_row.specs.Constant.{is_nothing}
use Rattle.lhg_row.specs.System.{IsSystem}
use Rattle.lhg_row.specs.TrimmedLaws.{trimmed-tidy}
use Rattle.lhg_row.specs.EmptyLaws.{tidy_nothing}

nothing-some : (rows : PlainPiece) → is_nothing rows ≡ true → not (length rows == 0) ≡ is_nothing rows
nothing-some [] e = false_true e
nothing-some (r ∷ []) e = sym e
nothing-some (r ∷ s ∷ rows) e = false_true e

module _ (a : Arithmetic) (left : PlainPiece) (h : IsSystem a 0 left) where
  -- it has no row where it is not 0 < 0
  no_row : is_nothing left ≡ false → left ≡ []
  no_row = tidy_nothing left h.wide (trimmed-tidy a left h.trimmed)

  -- it is 0 < 0 where it has one
  row-nothing : not (length left == 0) ≡ is_nothing left
  row-nothing = by_bool (is_nothing left) (nothing-some left) (λ e. subst (λ (rs : PlainPiece). not (length rs == 0) ≡ is_nothing rs) (sym (no_row e)) refl)

  -- the same, told of the rows that are shown
  pub shown-nothing : (b : Bool) (shown : PlainPiece) → b ≡ (length shown == 0) → shown ≡ left → not b ≡ is_nothing left
  shown-nothing b shown e is = ap not (e ∙ ap (λ (rs : PlainPiece). length rs == 0) is) ∙ row-nothing
