-- What does one crossing give on known pieces of fractions, by computation alone?
use Rattle.std.specs.Prelude.{ℤ, pos, negsuc, [], ◌∷◌, Option, Some, None}
use Rattle.std.proofs.Common.{refl}
use Rattle.lhg_math.specs.Gcd.{gcd}
use Rattle.lhg_math.specs.Number.{ratio_suc, ratio, add, mul, neg, sub, whole, lt, nought, unit, inverse, quot}
use Rattle.lhg_num.specs.FracArithmetic.{frac_arithmetic}
use Rattle.lhg_row.specs.Piece.{PlainPiece}
use Rattle.lhg_row.specs.Trim.{trim}
use Rattle.lhg_row.specs.Eliminate.{eliminate}
use Rattle.lhg_row.specs.Pieces.{make}
use Rattle.lhg_row.specs.Worked.{one, minus_one}
use Rattle.lhg_row.specs.WorkedPieces.{at_most, below, not_below, above, SamePiece}
use Rattle.lhg_motion.specs.CrossCalculus.{cross}

-- the one value b of x
abbrev only : ℤ → ℤ → PlainPiece
only minus_b b = not_below minus_b ∷ at_most b ∷ []

-- the flow sets with the one speed 1, and with the one speed 0
abbrev onward : PlainPiece
onward = only minus_one one

abbrev at_rest : PlainPiece
at_rest = only (pos 0) (pos 0)

-- the piece of the points with a crossing, over x
abbrev crossed : PlainPiece → PlainPiece → PlainPiece → PlainPiece → Option PlainPiece
crossed start through into flow = (cross frac_arithmetic 1 start through into flow).value

-- known crossings
pub record CrossingRows : Type 0 where
  -- from 0 <= x <= 8 through 8 < x <= 10 to there, at speed 1: from x = 8 alone
  pub at_the_edge : SamePiece (crossed (not_below (pos 0) ∷ at_most (pos 8) ∷ []) (above (negsuc 7) ∷ at_most (pos 10) ∷ []) (above (negsuc 7) ∷ at_most (pos 10) ∷ []) onward) (Some (only (negsuc 7) (pos 8)))
  -- from 0 <= x < 2 through itself to 2 <= x <= 10: the end may be outside the piece on the way
  pub half_open : SamePiece (crossed (not_below (pos 0) ∷ below (pos 2) ∷ []) (not_below (pos 0) ∷ below (pos 2) ∷ []) (not_below (negsuc 1) ∷ at_most (pos 10) ∷ []) onward) (Some (not_below (pos 0) ∷ below (pos 2) ∷ []))
  -- from x >= 5 to x <= 3, at speed 1
  pub the_wrong_way : SamePiece (crossed (not_below (negsuc 4) ∷ []) (not_below (pos 0) ∷ []) (at_most (pos 3) ∷ []) onward) None
  -- from 0 through x < 0 to 0, at rest: the one point on the way is not in the piece
  pub touching : SamePiece (crossed at_rest (below (pos 0) ∷ []) at_rest at_rest) None
  -- at rest from 0 <= x <= 2 through x >= 1: what starts and ends in one point stays there
  pub at_one_point : SamePiece (crossed (not_below (pos 0) ∷ at_most (pos 2) ∷ []) (not_below minus_one ∷ []) (not_below (pos 0) ∷ []) at_rest) (Some (not_below minus_one ∷ at_most (pos 2) ∷ []))
  -- from 0 to 0 at speeds of at most -1: no time is left
  pub in_no_time : SamePiece (crossed at_rest at_rest at_rest (at_most minus_one ∷ [])) None

-- ---- by computation
pub crossing_rows : CrossingRows
unfolding gcd ratio_suc ratio add mul neg sub whole lt nought unit inverse quot trim eliminate make cross
crossing_rows = record { at_the_edge = refl; half_open = refl; the_wrong_way = refl; touching = refl; at_one_point = refl; in_no_time = refl }
