-- Which points tell which rows of an elimination are wanted?
use Rattle.std.specs.Prelude.{◌≡◌, ◌⊎◌, ℕ, ◌+◌, Bool, true, List, length, None}
use Rattle.lhg_math.specs.Tests.{AllOf}
use Rattle.lhg_num.specs.Arithmetic.{Arithmetic}
use Rattle.lhg_row.specs.Row.{PlainRow, PlainPoint, Holds, relaxed}
use Rattle.lhg_row.specs.Piece.{PlainPiece}
use Rattle.lhg_row.specs.Members.{SomeOf}
use Rattle.lhg_row.specs.Eliminate.{without}
use Rattle.lhg_prune.specs.Touch.{strictly}

-- the list has the member
abbrev pub IsIn : {A : Type 0} → A → List A → Type 0
IsIn x xs = SomeOf (λ y. y ≡ x) xs

-- the rows over k + 1 variables, made weak, hold at the point; each has room there, or is firm; and what is made of firm rows without the last variable passes the test
pub record IsSeat (a : Arithmetic) (k : ℕ) (rows : PlainPiece) (keeps : PlainRow → Bool) (z : PlainPoint) : Type 0 where
  pub wide : length z ≡ k + 1
  pub weak : AllOf (λ r. Holds (relaxed r) z) rows
  pub firm : PlainPiece
  pub told : AllOf (λ r. Holds (strictly r) z ⊎ IsIn r firm) rows
  pub made : AllOf (λ q. keeps q ≡ true) (without a k firm None).value
