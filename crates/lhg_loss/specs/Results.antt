-- Which results have jump rows from a point in a piece?
use Rattle.std.specs.Prelude.{◌≡◌, ℕ, ◌++◌, length, Option, IsSomeAnd}
use Rattle.lhg_row.specs.Row.{PlainPoint}
use Rattle.lhg_row.specs.Piece.{PlainPiece, InPiece}
use Rattle.lhg_plant.specs.Plant.{PlainSwitch}

-- the jump rows lead from x to y, over n variables, in the piece
pub record IsResultIn (n : ℕ) (jump : PlainPiece) (x : PlainPoint) (into : PlainPiece) (y : PlainPoint) : Type 0 where
  pub wide : length y ≡ n
  pub jumps : InPiece jump (x ++ y)
  pub inside : InPiece into y

-- there is such a result
abbrev pub HasResult : ℕ → PlainPiece → PlainPoint → PlainPiece → Type 0
HasResult n jump x into = (y : PlainPoint) × IsResultIn n jump x into y

-- there is one by the jump rows of the switch, which is there
abbrev pub HasResultBy : Option PlainSwitch → ℕ → PlainPoint → PlainPiece → Type 0
HasResultBy o n x into = IsSomeAnd o (λ w. HasResult n w.jump x into)
