-- What is a projected list without rows that its piece does not need?
use Rattle.std.specs.Prelude.{◌≡◌, ◌⊎◌, ℕ, ◌-◌, Bool, filter}
use Rattle.lhg_num.specs.Arithmetic.{Arithmetic}
use Rattle.lhg_row.specs.Row.{PlainRow}
use Rattle.lhg_row.specs.Piece.{PlainPiece}
use Rattle.lhg_row.specs.HasValue.{HasPoint}
use Rattle.lhg_row.specs.Eliminate.{eliminate_last}
use Rattle.lhg_prune.specs.Directions.{IsByDirection}
use Rattle.lhg_prune.specs.Touch.{AreEnough}

-- the rows have a point, and kept are those rows of what is left without the later variables that a test of directions keeps, which are enough
pub record IsPruning (a : Arithmetic) (n keep : ℕ) (rows kept : PlainPiece) : Type 0 where
  pub some : HasPoint n rows
  pub keeps : PlainRow → Bool
  pub by : IsByDirection a keeps
  pub is : kept ≡ filter keeps (eliminate_last a keep (n - keep) rows).value
  pub enough : AreEnough keep (eliminate_last a keep (n - keep) rows).value keeps

-- kept is all that is left without the later variables, or a pruning of it
abbrev pub IsLeft : Arithmetic → ℕ → ℕ → PlainPiece → PlainPiece → Type 0
IsLeft a n keep rows kept = (kept ≡ (eliminate_last a keep (n - keep) rows).value) ⊎ IsPruning a n keep rows kept
