-- What do the definitions say of small known cases?
use Rattle.std.specs.Prelude.{◌≡◌, pos, true, false, zero, suc, [], ◌∷◌, List}
use Rattle.lhg_math.specs.Number.{Number, neg, nought, unit, half, whole}
use Rattle.lhg_row.specs.Row.{PlainRow, PlainPoint}
use Rattle.lhg_row.specs.Piece.{PlainPiece, InPiece, in_piece, InClosure, in_some}

-- the number 2
abbrev pub two : Number
two = whole (pos 2)

-- x < b
abbrev pub below : Number → PlainRow
below b = record { coefs = unit ∷ []; strict = true; bound = b }

-- -x < 0, which is x > 0
abbrev pub above_nought : PlainRow
above_nought = record { coefs = neg unit ∷ []; strict = true; bound = nought }

-- the open interval from 0 to 2
abbrev pub open_interval : PlainPiece
open_interval = below two ∷ above_nought ∷ []

-- x < 0 and x > 0
abbrev pub empty_system : PlainPiece
empty_system = below nought ∷ above_nought ∷ []

-- an open interval: a point inside, the ends outside, and both ends in its closure
pub record IntervalFacts : Type 0 where
  pub inside : in_piece open_interval (half ∷ []) ≡ true
  pub low_end : in_piece open_interval (nought ∷ []) ≡ false
  pub high_end : in_piece open_interval (two ∷ []) ≡ false
  pub low_closed : InClosure open_interval (nought ∷ [])
  pub high_closed : InClosure open_interval (two ∷ [])

-- no rows hold everywhere, no pieces hold nowhere, and rows that contradict one another hold at no point
pub record EmptyFacts : Type 0 where
  pub everywhere : (p : PlainPoint) → in_piece [] p ≡ true
  pub nowhere : (p : PlainPoint) → in_some [] p ≡ false
  pub empty : (p : PlainPoint) → ¬ InPiece empty_system p
