-- What do the operations on pieces and on lists of pieces give on known pieces of fractions, by computation alone?
use Rattle.std.specs.Prelude.{◌≡◌, ℕ, ℤ, pos, negsuc, true, false, List, [], ◌∷◌, map, replicate, Option, Some, None, option_map}
use Rattle.std.proofs.Common.{refl}
use Rattle.lhg_math.specs.Gcd.{gcd}
use Rattle.lhg_math.specs.Number.{ratio_suc, ratio, add, mul, neg, sub, whole, lt, nought, unit, inverse, quot, half, mid}
use Rattle.lhg_num.specs.FracArithmetic.{frac_arithmetic}
use Rattle.lhg_row.specs.Row.{PlainRow, PlainPoint}
use Rattle.lhg_row.specs.Piece.{PlainPiece}
use Rattle.lhg_row.specs.Trim.{trim}
use Rattle.lhg_row.specs.Eliminate.{eliminate}
use Rattle.lhg_row.specs.Pieces.{entails, make, meet, closure, includes, project}
use Rattle.lhg_row.specs.Lists.{counted_pieces, minus, covered, meet_lists}
use Rattle.lhg_row.specs.Sample.{sample}
use Rattle.lhg_row.specs.Worked.{weak, strict, one, minus_one, seen, seen_rows}

-- ---- rows over one variable
-- x <= b
abbrev pub at_most : ℤ → PlainRow
at_most b = weak (one ∷ []) b

-- x < b
abbrev pub below : ℤ → PlainRow
below b = strict (one ∷ []) b

-- -x <= b, which is x >= -b
abbrev pub not_below : ℤ → PlainRow
not_below b = weak (minus_one ∷ []) b

-- -x < b, which is x > -b
abbrev pub above : ℤ → PlainRow
above b = strict (minus_one ∷ []) b

-- 0 <= x <= 10
abbrev pub wide_range : PlainPiece
wide_range = not_below (pos 0) ∷ at_most (pos 10) ∷ []

-- 2 <= x <= 3
abbrev pub narrow_range : PlainPiece
narrow_range = not_below (negsuc 1) ∷ at_most (pos 3) ∷ []

-- 2 < x <= 3
abbrev pub open_range : PlainPiece
open_range = above (negsuc 1) ∷ at_most (pos 3) ∷ []

-- 0 <= x < 2, and 2 <= x <= 10
abbrev pub two_ranges : List PlainPiece
two_ranges = (not_below (pos 0) ∷ below (pos 2) ∷ []) ∷ (not_below (negsuc 1) ∷ at_most (pos 10) ∷ []) ∷ []

-- ---- rows over x and y
-- x - y <= 0, y < 3
abbrev pub under_slope : PlainPiece
under_slope = weak (one ∷ minus_one ∷ []) (pos 0) ∷ strict (pos 0 ∷ one ∷ []) (pos 3) ∷ []

-- ---- what is seen
-- two lists of pieces have the same numbers
abbrev pub SamePieces : List PlainPiece → List PlainPiece → Type 0
SamePieces ps qs = map seen_rows ps ≡ map seen_rows qs

-- a piece is there with the same numbers, or none is there
abbrev pub SamePiece : Option PlainPiece → Option PlainPiece → Type 0
SamePiece o p = option_map seen_rows o ≡ option_map seen_rows p

-- the point has these coordinates, each as numerator and denominator
abbrev pub IsAt : PlainPoint → List (ℤ × ℕ) → Type 0
IsAt x at = map seen x ≡ at

-- ---- the worked examples
-- entails, make, meet, closure, includes and project
pub record PieceRows : Type 0 where
  -- x <= 3 entails x < 4 and not x < 3
  pub entailed : (entails frac_arithmetic 1 (at_most (pos 3) ∷ []) (below (pos 4))).value ≡ true
  pub not_entailed : (entails frac_arithmetic 1 (at_most (pos 3) ∷ []) (below (pos 3))).value ≡ false
  -- x <= 0, y <= 0, x + y <= 0 are x <= 0, y <= 0; the last row that the others entail goes
  pub made : SamePiece (make frac_arithmetic 2 (weak (one ∷ pos 0 ∷ []) (pos 0) ∷ weak (pos 0 ∷ one ∷ []) (pos 0) ∷ weak (one ∷ one ∷ []) (pos 0) ∷ [])).value
      (Some (weak (one ∷ pos 0 ∷ []) (pos 0) ∷ weak (pos 0 ∷ one ∷ []) (pos 0) ∷ []))
  -- x < 1, x >= 1 make no piece
  pub none : SamePiece (make frac_arithmetic 1 (below one ∷ not_below minus_one ∷ [])).value None
  -- 0 <= x <= 10 and 2 < x <= 3 meet in 2 < x <= 3, and x < 2 does not meet 2 < x <= 3
  pub met : SamePiece (meet frac_arithmetic 1 wide_range open_range).value (Some open_range)
  pub apart : SamePiece (meet frac_arithmetic 1 (below (pos 2) ∷ []) open_range).value None
  -- the closure of 2 < x <= 3 is 2 <= x <= 3
  pub closed : SamePiece (closure frac_arithmetic 1 open_range).value (Some narrow_range)
  -- 0 <= x <= 10 includes 2 < x <= 3, and not the other way round
  pub included : (includes frac_arithmetic 1 wide_range open_range).value ≡ true
  pub not_included : (includes frac_arithmetic 1 open_range wide_range).value ≡ false
  -- x of x - y <= 0, y < 3 is x < 3
  pub projected : SamePiece (project frac_arithmetic 2 1 under_slope).value (Some (below (pos 3) ∷ []))

-- minus, covered and meet_lists
pub record ListRows : Type 0 where
  -- 0 <= x <= 10 minus 2 <= x <= 3 is x >= 0, x < 2 and x > 3, x <= 10
  pub left : SamePieces (minus frac_arithmetic 1 (wide_range ∷ []) (narrow_range ∷ [])).value
      ((not_below (pos 0) ∷ below (pos 2) ∷ []) ∷ (above (negsuc 2) ∷ at_most (pos 10) ∷ []) ∷ [])
  -- 0 <= x < 2 with 2 <= x <= 10 cover 0 <= x <= 10, and 2 <= x <= 3 does not
  pub covering : (covered frac_arithmetic 1 (wide_range ∷ []) two_ranges).value ≡ true
  pub not_covering : (covered frac_arithmetic 1 (wide_range ∷ []) (narrow_range ∷ [])).value ≡ false
  -- of 0 <= x < 2 and of 2 <= x <= 10, 2 < x <= 3 meets the second alone
  pub met : SamePieces (meet_lists frac_arithmetic 1 two_ranges (open_range ∷ [])).value (open_range ∷ [])

-- the mark of a list: 4,096 pieces or 16,384 rows are within the limits, and one more is not
pub record LimitRows : Type 0 where
  pub full : (counted_pieces (replicate 4096 [])).pieces ≡ false
  pub one_more : (counted_pieces (replicate 4097 [])).pieces ≡ true
  pub full_rows : (counted_pieces (replicate 16384 (at_most (pos 3)) ∷ [])).pieces ≡ false
  pub one_row_more : (counted_pieces (replicate 16384 (at_most (pos 3)) ∷ (at_most (pos 3) ∷ []) ∷ [])).pieces ≡ true

-- sample
pub record SampleRows : Type 0 where
  -- 0 < x < 1, x > 4, x < 4, and no rows
  pub middle : IsAt (sample 1 (above (pos 0) ∷ below one ∷ [])).value ((pos 1, 2) ∷ [])
  pub more : IsAt (sample 1 (above (negsuc 3) ∷ [])).value ((pos 5, 1) ∷ [])
  pub less : IsAt (sample 1 (below (pos 4) ∷ [])).value ((pos 3, 1) ∷ [])
  pub free : IsAt (sample 1 []).value ((pos 0, 1) ∷ [])
  -- 2 < x <= 3 and 2 <= x <= 3
  pub closed_above : IsAt (sample 1 open_range).value ((pos 3, 1) ∷ [])
  pub closed_below : IsAt (sample 1 narrow_range).value ((pos 2, 1) ∷ [])
  -- x - y <= 0, y < 3: x < 3 gives 2, and then y >= 2 gives 2
  pub two_variables : IsAt (sample 2 under_slope).value ((pos 2, 1) ∷ (pos 2, 1) ∷ [])

-- ---- by computation
pub piece_rows : PieceRows
unfolding gcd ratio_suc ratio add mul neg sub whole lt nought unit inverse quot trim eliminate make
piece_rows = record {
  entailed = refl;
  not_entailed = refl;
  made = refl;
  none = refl;
  met = refl;
  apart = refl;
  closed = refl;
  included = refl;
  not_included = refl;
  projected = refl;
}

pub list_rows : ListRows
unfolding gcd ratio_suc ratio add mul neg sub whole lt nought unit inverse quot trim eliminate make minus meet_lists
list_rows = record { left = refl; covering = refl; not_covering = refl; met = refl }

pub limit_rows : LimitRows
limit_rows = record { full = refl; one_more = refl; full_rows = refl; one_row_more = refl }

pub sample_rows : SampleRows
unfolding gcd ratio_suc ratio add mul neg sub whole lt nought unit inverse quot half mid trim eliminate
sample_rows = record { middle = refl; more = refl; less = refl; free = refl; closed_above = refl; closed_below = refl; two_variables = refl }
