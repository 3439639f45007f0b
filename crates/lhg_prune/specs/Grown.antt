-- What is a list after a row was put at its end, or was left out for a reason?
use Rattle.std.specs.Prelude.{◌≡◌, ◌⊎◌, [], ◌∷◌, ◌++◌}
use Rattle.lhg_row.specs.Row.{PlainRow}
use Rattle.lhg_row.specs.Piece.{PlainPiece}

-- the row is left out, and the reason holds
pub record IsLeftOut (Reason : Type 0) (old new : PlainPiece) : Type 0 where
  pub reason : Reason
  pub same : new ≡ old

-- the row was put at the end, or left out for the reason
abbrev pub IsGrown : Type 0 → PlainPiece → PlainRow → PlainPiece → Type 0
IsGrown Reason old r new = IsLeftOut Reason old new ⊎ (new ≡ old ++ r ∷ [])
