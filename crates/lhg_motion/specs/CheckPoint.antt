-- At which places of a segment does a run look: its check points against a list of rows?
use Rattle.std.specs.Prelude.{◌≡◌, ◌⊎◌, true, List, [], ◌∷◌, ◌++◌}
use Rattle.lhg_math.specs.Number.{Number, lt, nought, unit, mid}
use Rattle.lhg_math.specs.Places.{IsPlace}
use Rattle.lhg_row.specs.Row.{PlainRow, PlainPoint, value_at, IsTight}
use Rattle.lhg_row.specs.Piece.{PlainPiece}
use Rattle.lhg_motion.specs.Segment.{along}

-- the rows of a list of pieces
abbrev pub rows_of : List PlainPiece → List PlainRow
rows_of [] = []
rows_of (piece ∷ pieces) = piece ++ rows_of pieces

-- the row is not constant along the segment, and holds with equality at the place
pub record IsTurn (r : PlainRow) (x y : PlainPoint) (p : Number) : Type 0 where
  pub moves : ¬ (value_at r x ≡ value_at r y)
  pub tight : IsTight r (along x y p)

-- some row of the list turns at the place
abbrev pub SomeTurn : List PlainRow → PlainPoint → PlainPoint → Number → Type 0
SomeTurn [] x y p = ⊥
SomeTurn (r ∷ rows) x y p = IsTurn r x y p ⊎ SomeTurn rows x y p

-- the places 0 and 1, and each place from 0 to 1 at which a row turns
pub record IsCut (rows : List PlainRow) (x y : PlainPoint) (p : Number) : Type 0 where
  pub place : IsPlace p
  pub why : (p ≡ nought) ⊎ ((p ≡ unit) ⊎ SomeTurn rows x y p)

-- two cuts with none strictly between them
pub record AreNeighbours (rows : List PlainRow) (x y : PlainPoint) (a b : Number) : Type 0 where
  pub left : IsCut rows x y a
  pub right : IsCut rows x y b
  pub order : lt a b ≡ true
  pub clear : (p : Number) → IsCut rows x y p → lt a p ≡ true → lt p b ≡ true → ⊥

-- the middle between two neighbours
pub record IsMiddle (rows : List PlainRow) (x y : PlainPoint) (p : Number) : Type 0 where
  pub left : Number
  pub right : Number
  pub neighbours : AreNeighbours rows x y left right
  pub middle : p ≡ mid left right

-- a cut, or the middle between two neighbours
abbrev pub IsCheckPoint : List PlainRow → PlainPoint → PlainPoint → Number → Type 0
IsCheckPoint rows x y p = IsCut rows x y p ⊎ IsMiddle rows x y p

-- strictly between two numbers
pub record IsBetween (a b p : Number) : Type 0 where
  pub left : lt a p ≡ true
  pub right : lt p b ≡ true

-- two neighbouring cuts with the place strictly between them
pub record IsEnclosed (rows : List PlainRow) (x y : PlainPoint) (p : Number) : Type 0 where
  pub left : Number
  pub right : Number
  pub neighbours : AreNeighbours rows x y left right
  pub between : IsBetween left right p
