-- In which layer is a piece of a line found, two pieces before the bad one?
use Rattle.std.specs.Prelude.{zero, suc, pos, List, true, false, [], ◌∷◌}
use Rattle.lhg_math.specs.Number.{neg, nought, unit, whole}
use Rattle.lhg_row.specs.Row.{PlainPoint}
use Rattle.lhg_row.specs.Piece.{PlainPiece}
use Rattle.lhg_motion.specs.Reach.{HasPlay, InLevel}

-- 0 <= x < 1
abbrev pub first_part : PlainPiece
first_part = record { coefs = neg unit ∷ []; strict = false; bound = nought } ∷ record { coefs = unit ∷ []; strict = true; bound = unit } ∷ []

-- 1 <= x < 2
abbrev pub second_part : PlainPiece
second_part = record { coefs = neg unit ∷ []; strict = false; bound = neg unit } ∷ record { coefs = unit ∷ []; strict = true; bound = whole (pos 2) } ∷ []

-- x >= 2
abbrev pub third_part : PlainPiece
third_part = record { coefs = neg unit ∷ []; strict = false; bound = neg (whole (pos 2)) } ∷ []

-- x = 1
abbrev pub onward : PlainPiece
onward = record { coefs = unit ∷ []; strict = false; bound = unit } ∷ record { coefs = neg unit ∷ []; strict = false; bound = neg unit } ∷ []

-- the bad piece
abbrev pub bad_part : List PlainPiece
bad_part = third_part ∷ []

-- the near ones
abbrev pub near_parts : List PlainPiece
near_parts = first_part ∷ second_part ∷ []

-- x = 0
abbrev pub origin : PlainPoint
origin = nought ∷ []

-- the origin has a play, is in level 2 and not in level 1
pub record ReachExampleFacts : Type 0 where
  pub second_layer : InLevel bad_part near_parts onward (suc (suc zero)) origin
  pub play : HasPlay bad_part near_parts onward origin
  pub not_first : ¬ InLevel bad_part near_parts onward (suc zero) origin
