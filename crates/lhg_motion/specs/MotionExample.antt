-- What do the definitions of motion say of small known cases?
use Rattle.std.specs.Prelude.{◌≡◌, pos, true, false, zero, suc, [], ◌∷◌, List}
use Rattle.lhg_math.specs.Number.{Number, neg, nought, unit, half, whole}
use Rattle.lhg_row.specs.Row.{PlainRow, PlainPoint}
use Rattle.lhg_row.specs.Piece.{PlainPiece, InPiece, in_piece, InClosure, in_some}
use Rattle.lhg_motion.specs.Segment.{along}
use Rattle.lhg_motion.specs.Flow.{IsFlow}
use Rattle.lhg_motion.specs.Play.{PlainMove, IsPlay, last_point, IsEarlier}
use Rattle.lhg_motion.specs.CheckPoint.{IsTurn}
use Rattle.lhg_row.specs.Example.{two, below}

-- speeds up to 1
abbrev pub slow : PlainPiece
slow = record { coefs = unit ∷ []; strict = false; bound = unit } ∷ []

-- a row without a variable
abbrev pub flat : PlainRow
flat = record { coefs = nought ∷ []; strict = false; bound = nought }

-- from 0 to 1 in the time 1, and on to 2 in the time 1
abbrev pub two_moves : List PlainMove
two_moves = record { time = unit; to = unit ∷ [] } ∷ record { time = unit; to = two ∷ [] } ∷ []

-- half of the way from 0 to 1; a flow over it; a play of two flows, of which the end of the first is an earlier place and the
-- end of the second is not; where a row turns, and a row without a variable that turns nowhere
pub record MotionFacts : Type 0 where
  pub half_way : along (nought ∷ []) (unit ∷ []) half ≡ half ∷ []
  pub flow : IsFlow [] slow (nought ∷ []) half (half ∷ [])
  pub play : IsPlay [] slow (nought ∷ []) two_moves
  pub last : last_point (nought ∷ []) two_moves ≡ two ∷ []
  pub earlier : IsEarlier two_moves zero unit
  pub not_earlier : ¬ IsEarlier two_moves (suc zero) unit
  pub turn : IsTurn (below half) (nought ∷ []) (unit ∷ []) half
  pub no_turn : (p : Number) → ¬ IsTurn flat (nought ∷ []) (unit ∷ []) p
