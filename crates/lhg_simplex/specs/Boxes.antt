-- What is told of a system in which each row has one variable?
use Rattle.std.specs.Prelude.{◌≡◌, ◌<◌, ◌⊎◌, ℕ, Bool, true, false, cond, ◌||◌, List, [], ◌∷◌, length, get_or, map, Option, Some, None, option_map}
use Rattle.lhg_math.specs.Number.{Number, neg, quot, nought, unit}
use Rattle.lhg_math.specs.Signs.{is_nought, lead}
use Rattle.lhg_math.specs.Bounds.{Bound}
use Rattle.lhg_math.specs.Tests.{Every, all_of}
use Rattle.lhg_num.specs.FracArithmetic.{frac_arithmetic}
use Rattle.lhg_num.specs.Marked.{Marked, done, and_then, valued, marked_cmp}
use Rattle.lhg_row.specs.Row.{PlainRow}
use Rattle.lhg_row.specs.Piece.{PlainPiece}
use Rattle.lhg_row.specs.Column.{coef_at, lower_at, upper_at, level_at}
use Rattle.lhg_row.specs.Sample.{chosen}
use Rattle.lhg_row.specs.Values.{fits_order}
use Rattle.lhg_simplex.specs.Verdict.{verdict}
use Rattle.lhg_simplex.specs.declared.guesses.Guess.{Guess}

-- exactly one of the numbers is not 0
abbrev pub is_single : List Number → Bool
is_single [] = false
is_single (c ∷ cs) = cond (is_nought c) (is_single cs) (is_nought (lead cs))

-- each row has exactly one coefficient other than 0
abbrev pub IsBoxed : PlainPiece → Type 0
IsBoxed rows = Every (λ r. is_single r.coefs) rows

-- the same as a test
abbrev pub are_boxed : PlainPiece → Bool
are_boxed rows = all_of (λ r. is_single r.coefs) rows

-- ---- the bounds of a variable
-- the first row that passes the test
abbrev pub first_row : (PlainRow → Bool) → PlainPiece → Option PlainRow
first_row f [] = None
first_row f (r ∷ rows) = cond (f r) (Some r) (first_row f rows)

-- the bound that a row gives to variable k, which is its only one
abbrev pub bound_on : ℕ → PlainRow → Bound
bound_on k r = record { at = quot r.bound (coef_at k r); strict = r.strict }

-- the bounds of variable k. In a trimmed list whose rows have one variable each, no second row bounds k from one side
abbrev pub lower_on : ℕ → PlainPiece → Option Bound
lower_on k rows = option_map (bound_on k) (first_row (lower_at k) rows)

abbrev pub upper_on : ℕ → PlainPiece → Option Bound
upper_on k rows = option_map (bound_on k) (first_row (upper_at k) rows)

-- ---- the same of scaled rows, whose coefficients are 1 or -1
-- the lower bound that a row with the coefficient -1 gives
abbrev pub lower_bound : PlainRow → Bound
lower_bound r = record { at = neg r.bound; strict = r.strict }

-- the upper bound that a row with the coefficient 1 gives
abbrev pub upper_bound : PlainRow → Bound
upper_bound r = record { at = r.bound; strict = r.strict }

-- the lower bound of variable k
abbrev pub lower_of : ℕ → PlainPiece → Option Bound
lower_of k rows = option_map lower_bound (first_row (lower_at k) rows)

-- its upper bound
abbrev pub upper_of : ℕ → PlainPiece → Option Bound
upper_of k rows = option_map upper_bound (first_row (upper_at k) rows)

-- ---- the value of a variable
-- no value where two bounds cross, or are equal and one of them is strict; else the one that is chosen between them
abbrev pub box_value : Option Bound → Option Bound → Marked (Option Number)
box_value None u = valued (λ v. Some v) (chosen None u)
box_value (Some l) None = valued (λ v. Some v) (chosen (Some l) None)
box_value (Some l) (Some u) =
    and_then (marked_cmp frac_arithmetic l.at u.at) (λ o. cond (fits_order (l.strict || u.strict) o) (valued (λ v. Some v) (chosen (Some l) (Some u))) (done None))

-- the value of variable k
abbrev pub value_in : ℕ → PlainPiece → Marked (Option Number)
value_in k rows = box_value (lower_of k rows) (upper_of k rows)

-- for some variable, a number is past the limit that the comparison of its bounds forms, or the value between them
pub record HasWideBounds (n : ℕ) (rows : PlainPiece) : Type 0 where
  pub variable : ℕ
  pub there : variable < n
  pub wide : (box_value (lower_on variable rows) (upper_on variable rows)).wide ≡ true

-- 1 for a row of variable k, and 0 for another
abbrev pub weight : ℕ → PlainRow → Number
weight k r = cond (level_at k r) nought unit

-- the same of each row
abbrev pub picked : ℕ → PlainPiece → List Number
picked k rows = map (weight k) rows

-- ---- what is promised
-- the guess is a point of the rows or refutes them
pub record IsDecided (n : ℕ) (rows : PlainPiece) (guess : Guess) : Type 0 where
  pub answer : Bool
  pub told : verdict n rows guess ≡ Some answer

-- where each row has one variable, the guess decides, or some variable's bounds form a number past the limit
abbrev pub IsPromised : ℕ → PlainPiece → Guess → Type 0
IsPromised n rows guess = IsBoxed rows → IsDecided n rows guess ⊎ HasWideBounds n rows

-- the first numbers are those of the first k variables
pub record HasValues (k : ℕ) (rows : PlainPiece) (x : List Number) : Type 0 where
  pub many : length x ≡ k
  pub values : (j : ℕ) → j < k → (value_in j rows).value ≡ Some (get_or x j nought)
