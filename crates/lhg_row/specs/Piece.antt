-- What is a piece, and which points does it hold? What does a list of pieces hold?
use Rattle.std.specs.Prelude.{Bool, ◌⊎◌, List, [], ◌∷◌}
use Rattle.lhg_math.specs.Tests.{Every, all_of, any_of}
use Rattle.lhg_row.specs.Row.{PlainRow, PlainPoint, holds_at, relaxed}

-- a piece is a list of rows
abbrev pub PlainPiece : Type 0
PlainPiece = List PlainRow

-- all rows of the piece hold at the point
abbrev pub InPiece : PlainPiece → PlainPoint → Type 0
InPiece rows p = Every (λ r. holds_at r p) rows

-- the same as a test
abbrev pub in_piece : PlainPiece → PlainPoint → Bool
in_piece rows p = all_of (λ r. holds_at r p) rows

-- all rows of the piece hold at the point once they are made weak
abbrev pub InClosure : PlainPiece → PlainPoint → Type 0
InClosure rows p = Every (λ r. holds_at (relaxed r) p) rows

-- the point is in some piece of the list
abbrev pub InSome : List PlainPiece → PlainPoint → Type 0
InSome [] p = ⊥
InSome (piece ∷ pieces) p = InPiece piece p ⊎ InSome pieces p

-- the same as a test
abbrev pub in_some : List PlainPiece → PlainPoint → Bool
in_some pieces p = any_of (λ piece. in_piece piece p) pieces
