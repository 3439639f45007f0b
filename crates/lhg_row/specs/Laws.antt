-- Which laws does the truth of rows and pieces obey?
use Rattle.std.specs.Prelude.{◌≡◌, ◌⊎◌, ◌↔◌, Bool, true, List, [], ◌∷◌, length}
use Rattle.lhg_math.specs.Number.{Number, add, mul, neg, lt, nought, unit}
use Rattle.lhg_math.specs.Interpolate.{interpolate}
use Rattle.lhg_math.specs.Places.{IsPlace, IsInner}
use Rattle.lhg_row.specs.Row.{PlainRow, PlainPoint, value_at, holds_at, Holds}
use Rattle.lhg_row.specs.Piece.{PlainPiece, InPiece, in_piece, InClosure, InSome, in_some}
use Rattle.lhg_row.specs.Members.{SomeOf}
use Rattle.lhg_math.specs.Tests.{AllOf}

-- truth is decidable, and the facts agree with their tests
pub record TruthLaws : Type 0 where
  pub row_decided : (r : PlainRow) (p : PlainPoint) → Holds r p ⊎ ¬ Holds r p
  pub piece : (rows : PlainPiece) (p : PlainPoint) → InPiece rows p ↔ (in_piece rows p ≡ true)
  pub some : (pieces : List PlainPiece) (p : PlainPoint) → InSome pieces p ↔ (in_some pieces p ≡ true)
  pub piece_decided : (rows : PlainPiece) (p : PlainPoint) → InPiece rows p ⊎ ¬ InPiece rows p
  pub some_decided : (pieces : List PlainPiece) (p : PlainPoint) → InSome pieces p ⊎ ¬ InSome pieces p
