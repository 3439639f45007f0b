-- What is known of a projection that is pruned?
use Rattle.std.proofs.Common.{◌≡◌, ℕ, ◌+◌, true, false, Option, Some, None, Result, Ok, Err, refl, sym, ◌∙◌, subst, arith}
use Rattle.std.specs.Prelude.{IfOk, is_some}
use Rattle.lhg_math.specs.Tests.{false_true}
use Rattle.lhg_row.specs.Piece.{PlainPiece}
use Rattle.lhg_row.specs.Width.{AllWide, HasVariable}
use Rattle.lhg_num.specs.Marked.{Marked}
use Rattle.lhg_num.specs.Halting.{IsHaltedByRows}
use Rattle.lhg_num.specs.declared.refusals.Halt.{Halt}

-- what is not something is nothing
pub none-is : {A : Type 0} (o : Option A) → is_some o ≡ false → o ≡ None
none-is None e = refl
none-is (Some x) e = false_true (sym e)

-- rows have their last variable
pub has_last : (keep : ℕ) (rows : PlainPiece) → AllWide (keep + 1) rows → HasVariable keep rows
has_last keep rows w = record { width = keep + 1; there = omega arith; wide = w }

-- an answer is what another calculation gives
pub same_value : {T A : Type 0} (r : Result T Halt) (m : Marked A) (f : T → A) (v : A) → IsHaltedByRows r m f → v ≡ m.value → IfOk r (λ x. f x ≡ v)
same_value (Ok x) m f v h e = h ∙ sym e
same_value (Err d) m f v h e = tt

-- so what holds of that holds of the answer
pub value_has : {T A : Type 0} (r : Result T Halt) (m : Marked A) (f : T → A) (v : A) (P : A → Type 0) → IsHaltedByRows r m f → v ≡ m.value → P v → IfOk r (λ x. P (f x))
value_has (Ok x) m f v P h e p = subst P (e ∙ sym h) p
value_has (Err d) m f v P h e p = tt
