-- What is the sum of some rows, each times a number, and when is it false everywhere?
use Rattle.std.specs.Prelude.{ℕ, zero, suc, Bool, true, false, not, ◌&&◌, ◌||◌, List, [], ◌∷◌, length, map, nat_eq}
use Rattle.lhg_math.specs.Number.{Number, lt, nought}
use Rattle.lhg_math.specs.Signs.{is_nought}
use Rattle.lhg_math.specs.Tests.{all_of}
use Rattle.lhg_num.specs.Arithmetic.{Arithmetic}
use Rattle.lhg_num.specs.Marked.{Marked, done, and_then, valued}
use Rattle.lhg_row.specs.Row.{PlainRow, row_value, row_with, holds_at}
use Rattle.lhg_row.specs.Piece.{PlainPiece}
use Rattle.lhg_row.specs.Column.{coef_at}
use Rattle.lhg_row.specs.Values.{marked_value}

-- the bound of a row
abbrev pub bound_of : PlainRow → Number
bound_of r = r.bound

-- the sum of the entries of the rows, each times its multiplier, from the first row to the last
abbrev pub mixed : (PlainRow → Number) → List Number → PlainPiece → Number
mixed entry ms rows = row_value nought ms (map entry rows)

-- the same, formed
abbrev pub marked_mixed : Arithmetic → (PlainRow → Number) → List Number → PlainPiece → Marked Number
marked_mixed a entry ms rows = marked_value a nought ms (map entry rows)

-- the sum is strict: some strict row has a multiplier other than 0
abbrev pub mixes_strict : List Number → PlainPiece → Bool
mixes_strict [] rows = false
mixes_strict (m ∷ ms) [] = false
mixes_strict (m ∷ ms) (r ∷ rows) = (r.strict && not (is_nought m)) || mixes_strict ms rows

-- no multiplier is negative
abbrev pub none_negative : List Number → Bool
none_negative ms = all_of (λ m. not (lt m nought)) ms

-- count coefficients of the sum, from variable k on, are 0
abbrev pub vanish : ℕ → ℕ → List Number → PlainPiece → Bool
vanish k zero ms rows = true
vanish k (suc count) ms rows = is_nought (mixed (coef_at k) ms rows) && vanish (suc k) count ms rows

-- the sum of the bounds, and its kind, make a row without coefficients false
abbrev pub is_false_bound : Bool → Number → Bool
is_false_bound strict b = not (holds_at (row_with [] strict b) [])

-- one multiplier per row, none negative: the sum of rows over n variables has no coefficient other than 0, and is false
abbrev pub refutes : ℕ → PlainPiece → List Number → Bool
refutes n rows ms = nat_eq (length ms) (length rows) && (none_negative ms && (vanish 0 n ms rows && is_false_bound (mixes_strict ms rows) (mixed bound_of ms rows)))

-- ---- with marks
-- whether the coefficients are 0, formed
abbrev pub marked_vanish : Arithmetic → ℕ → ℕ → List Number → PlainPiece → Marked Bool
marked_vanish a k zero ms rows = done true
marked_vanish a k (suc count) ms rows = and_then (marked_mixed a (coef_at k) ms rows) (λ s. valued (λ c. is_nought s && c) (marked_vanish a (suc k) count ms rows))

-- whether the sum of the bounds is false, formed
abbrev pub marked_false : Arithmetic → List Number → PlainPiece → Marked Bool
marked_false a ms rows = valued (is_false_bound (mixes_strict ms rows)) (marked_mixed a bound_of ms rows)

-- whether the multipliers refute the rows, with the marks of the sums
abbrev pub marked_refutes : Arithmetic → ℕ → PlainPiece → List Number → Marked Bool
marked_refutes a n rows ms =
    and_then (marked_vanish a 0 n ms rows) (λ v. valued (λ f. nat_eq (length ms) (length rows) && (none_negative ms && (v && f))) (marked_false a ms rows))
