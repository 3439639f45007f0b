-- Have rows values of some variables that satisfy them at given values of the others, and have they a point?
use Rattle.std.specs.Prelude.{◌≡◌, ◌↔◌, ℕ, suc, Bool, true, false, ◌++◌, length, insert}
use Rattle.lhg_math.specs.Number.{Number}
use Rattle.lhg_row.specs.Row.{PlainPoint}
use Rattle.lhg_row.specs.Piece.{PlainPiece, InPiece}

-- some value of variable k satisfies the rows at the values x of the others
pub record HasValue (k : ℕ) (rows : PlainPiece) (x : PlainPoint) : Type 0 where
  pub value : Number
  pub holds : InPiece rows (insert x k value)

-- some point over n variables satisfies the rows
pub record HasPoint (n : ℕ) (rows : PlainPiece) : Type 0 where
  pub point : PlainPoint
  pub wide : length point ≡ n
  pub holds : InPiece rows point

-- the new rows hold at a point exactly where some value of variable k satisfies the old ones, which are over n variables
abbrev pub IsElimination : ℕ → ℕ → PlainPiece → PlainPiece → Type 0
IsElimination n k old new = (x : PlainPoint) → suc (length x) ≡ n → InPiece new x ↔ HasValue k old x

-- some values of count later variables complete the point to a point of the rows
pub record Completes (count : ℕ) (rows : PlainPiece) (x : PlainPoint) : Type 0 where
  pub later : PlainPoint
  pub many : length later ≡ count
  pub inside : InPiece rows (x ++ later)

-- the new rows hold at a point over the first variables exactly where some values of count later ones complete it to a point of the old rows
abbrev pub IsLastElimination : ℕ → ℕ → PlainPiece → PlainPiece → Type 0
IsLastElimination kept count old new = (x : PlainPoint) → length x ≡ kept → InPiece new x ↔ Completes count old x

-- true says that the rows over n variables have no point, and false that they have one
abbrev pub IsEmptiness : ℕ → PlainPiece → Bool → Type 0
IsEmptiness n rows true = (x : PlainPoint) → length x ≡ n → ¬ InPiece rows x
IsEmptiness n rows false = HasPoint n rows
