-- What does the combination of two rows say, in which a variable cancels?
use Rattle.std.specs.Prelude.{◌≡◌, ◌↔◌, ℕ, suc, true, [], ◌∷◌, length}
use Rattle.lhg_math.specs.Number.{Number, lt, nought}
use Rattle.lhg_row.specs.Row.{PlainRow, PlainPoint, Holds}
use Rattle.lhg_row.specs.Column.{coef_at, drop_column}
use Rattle.lhg_row.specs.HasValue.{HasValue}

-- the numbers have opposite signs, and neither is 0
pub data AreOpposed (c d : Number) : Type 0 where
  up_down : lt nought c ≡ true → lt d nought ≡ true → AreOpposed c d
  down_up : lt c nought ≡ true → lt nought d ≡ true → AreOpposed c d

-- the row does not speak of variable k, and holds at the others exactly where some value of the variable satisfies both rows
pub record IsCombination (k : ℕ) (r s row : PlainRow) : Type 0 where
  pub cancels : coef_at k row ≡ nought
  pub holds : (x : PlainPoint) → suc (length x) ≡ length r.coefs → Holds (drop_column k row) x ↔ HasValue k (r ∷ s ∷ []) x
