-- What do trim, eliminate and is_empty give on known rows of fractions, by computation alone?
use Rattle.std.specs.Prelude.{◌≡◌, ◌^◌, ℕ, ℤ, pos, negsuc, neg_ℤ, Bool, true, false, List, [], ◌∷◌, map, replicate}
use Rattle.std.proofs.Common.{refl}
use Rattle.lhg_math.specs.Gcd.{gcd}
use Rattle.lhg_math.specs.Number.{Number, ratio_suc, ratio, add, mul, neg, sub, whole, lt, nought, unit, inverse, quot}
use Rattle.lhg_num.specs.FracArithmetic.{frac_arithmetic}
use Rattle.lhg_row.specs.Row.{PlainRow}
use Rattle.lhg_row.specs.Piece.{PlainPiece}
use Rattle.lhg_row.specs.Trim.{counted, trim}
use Rattle.lhg_row.specs.Eliminate.{eliminate, is_empty}

-- ---- rows of whole numbers
-- the row of these coefficients and this bound, weak
abbrev pub weak : List ℤ → ℤ → PlainRow
weak cs b = record { coefs = map whole cs; strict = false; bound = whole b }

-- the same, strict
abbrev pub strict : List ℤ → ℤ → PlainRow
strict cs b = record { coefs = map whole cs; strict = true; bound = whole b }

-- the coefficients 1 and -1
abbrev pub one : ℤ
one = pos 1

-- -1
abbrev pub minus_one : ℤ
minus_one = negsuc 0

-- ---- what is seen of rows
-- numerator and denominator
abbrev pub seen : Number → ℤ × ℕ
seen x = (x.top, x.bottom)

-- coefficients, kind and bound
abbrev pub seen_row : PlainRow → List (ℤ × ℕ) × Bool × (ℤ × ℕ)
seen_row r = (map seen r.coefs, r.strict, seen r.bound)

-- row by row
abbrev pub seen_rows : PlainPiece → List (List (ℤ × ℕ) × Bool × (ℤ × ℕ))
seen_rows rows = map seen_row rows

-- two lists of rows have the same numbers
abbrev pub Same : PlainPiece → PlainPiece → Type 0
Same rows others = seen_rows rows ≡ seen_rows others

-- what is left without variable k
abbrev pub left : ℕ → PlainPiece → PlainPiece
left k rows = (eliminate frac_arithmetic k rows).value

-- the trimmed rows
abbrev pub trimmed : PlainPiece → PlainPiece
trimmed rows = (trim frac_arithmetic rows).value

-- whether rows over n variables have no point
abbrev pub empty : ℕ → PlainPiece → Bool
empty n rows = (is_empty frac_arithmetic n (trimmed rows)).value

-- ---- the worked examples
-- trim
pub record TrimRows : Type 0 where
  -- no rows, and no variables
  pub none : Same (trimmed []) []
  pub no_variable : Same (trimmed (weak [] one ∷ weak [] (pos 0) ∷ [])) []
  -- 0 <= -1 leaves 0 < 0 alone
  pub false_row : Same (trimmed (weak (one ∷ []) one ∷ weak (pos 0 ∷ []) minus_one ∷ [])) (strict (pos 0 ∷ []) (pos 0) ∷ [])
  pub false_alone : Same (trimmed (strict [] (pos 0) ∷ [])) (strict [] (pos 0) ∷ [])
  -- 2x <= 4 and 3x < 6 have one direction: x < 2
  pub one_direction : Same (trimmed (weak (pos 2 ∷ []) (pos 4) ∷ strict (pos 3 ∷ []) (pos 6) ∷ [])) (strict (one ∷ []) (pos 2) ∷ [])
  -- the tighter row stands in the place of the first: y >= 0, x <= 4, y > 3 are y > 3, x <= 4
  pub in_place : Same (trimmed (weak (pos 0 ∷ minus_one ∷ []) (pos 0) ∷ weak (one ∷ pos 0 ∷ []) (pos 4) ∷ strict (pos 0 ∷ negsuc 1 ∷ []) (negsuc 5) ∷ []))
      (strict (pos 0 ∷ minus_one ∷ []) (negsuc 2) ∷ weak (one ∷ pos 0 ∷ []) (pos 4) ∷ [])

-- eliminate
pub record EliminateRows : Type 0 where
  pub none : Same (left 0 []) []
  pub nothing : Same (left 0 (strict (pos 0 ∷ []) (pos 0) ∷ [])) (strict [] (pos 0) ∷ [])
  -- y out of x - y <= 0, y < 3 is x < 3
  pub strict_bound : Same (left 1 (weak (one ∷ minus_one ∷ []) (pos 0) ∷ strict (pos 0 ∷ one ∷ []) (pos 3) ∷ [])) (strict (one ∷ []) (pos 3) ∷ [])
  -- y out of x - y <= 0, y <= 3 is x <= 3
  pub weak_bound : Same (left 1 (weak (one ∷ minus_one ∷ []) (pos 0) ∷ weak (pos 0 ∷ one ∷ []) (pos 3) ∷ [])) (weak (one ∷ []) (pos 3) ∷ [])
  -- x = y is a pair: y out of x - y <= 0, y - x <= 0, y < 3, y >= 1 is x < 3, x >= 1
  pub by_pair : Same (left 1 (weak (one ∷ minus_one ∷ []) (pos 0) ∷ weak (minus_one ∷ one ∷ []) (pos 0) ∷ strict (pos 0 ∷ one ∷ []) (pos 3) ∷ weak (pos 0 ∷ minus_one ∷ []) minus_one ∷ []))
      (strict (one ∷ []) (pos 3) ∷ weak (minus_one ∷ []) minus_one ∷ [])
  -- a pair of which one row is strict is no pair: y out of x - y <= 0, y - x < 0 is 0 < 0
  pub no_pair : Same (left 1 (weak (one ∷ minus_one ∷ []) (pos 0) ∷ strict (minus_one ∷ one ∷ []) (pos 0) ∷ [])) (strict (pos 0 ∷ []) (pos 0) ∷ [])

-- is_empty
pub record EmptyRows : Type 0 where
  pub none : empty 0 [] ≡ false
  pub everything : empty 2 [] ≡ false
  pub nothing : empty 0 (strict [] (pos 0) ∷ []) ≡ true
  -- x < 1, x >= 1
  pub strict_edge : empty 1 (strict (one ∷ []) one ∷ weak (minus_one ∷ []) minus_one ∷ []) ≡ true
  -- x <= 1, x >= 1
  pub weak_edge : empty 1 (weak (one ∷ []) one ∷ weak (minus_one ∷ []) minus_one ∷ []) ≡ false
  -- x < y, y < x
  pub circle : empty 2 (strict (one ∷ minus_one ∷ []) (pos 0) ∷ strict (minus_one ∷ one ∷ []) (pos 0) ∷ []) ≡ true

-- the marks
pub record MarkRows : Type 0 where
  -- y out of x - 2^100 * y <= 0, y <= 3 forms no number past its limit, and out of 2^100 * x + y <= 3 in place of the second it does
  pub within : (eliminate frac_arithmetic 1 (weak (one ∷ neg_ℤ (pos (2 ^ 100)) ∷ []) (pos 0) ∷ weak (pos 0 ∷ one ∷ []) (pos 3) ∷ [])).wide ≡ false
  pub wide : (eliminate frac_arithmetic 1 (weak (one ∷ neg_ℤ (pos (2 ^ 100)) ∷ []) (pos 0) ∷ weak (pos (2 ^ 100) ∷ one ∷ []) (pos 3) ∷ [])).wide ≡ true
  pub long : (counted (replicate 8193 (strict [] (pos 0)))).rows ≡ true
  pub full : (counted (replicate 8192 (strict [] (pos 0)))).rows ≡ false

-- ---- by computation
pub trim_rows : TrimRows
unfolding gcd ratio_suc ratio add mul neg sub whole lt nought unit inverse quot trim
trim_rows = record { none = refl; no_variable = refl; false_row = refl; false_alone = refl; one_direction = refl; in_place = refl }

-- they are computed
pub eliminate_rows : EliminateRows
unfolding gcd ratio_suc ratio add mul neg sub whole lt nought unit inverse quot trim eliminate
eliminate_rows = record { none = refl; nothing = refl; strict_bound = refl; weak_bound = refl; by_pair = refl; no_pair = refl }

-- they are computed
pub empty_rows : EmptyRows
unfolding gcd ratio_suc ratio add mul neg sub whole lt nought unit inverse quot trim eliminate
empty_rows = record { none = refl; everything = refl; nothing = refl; strict_edge = refl; weak_edge = refl; circle = refl }

-- they are computed
pub mark_rows : MarkRows
unfolding gcd ratio_suc ratio add mul neg sub whole lt nought unit inverse quot trim eliminate
mark_rows = record { within = refl; wide = refl; long = refl; full = refl }
