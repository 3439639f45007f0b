-- Which rows leave all variables as they are?
use Rattle.std.specs.Prelude.{ℕ, zero, suc, false, [], ◌∷◌, ◌++◌}
use Rattle.lhg_math.specs.Number.{Number, neg, nought, unit}
use Rattle.lhg_row.specs.Row.{PlainRow}
use Rattle.lhg_row.specs.Piece.{PlainPiece}
use Rattle.lhg_plant.specs.Still.{axis}

-- over n old variables and then n new ones, the row a * v + b * v' <= 0 for variable v, counted from 0
abbrev pub change_row : ℕ → ℕ → (a b : Number) → PlainRow
change_row n v a b = record { coefs = axis n v a ++ axis n v b; strict = false; bound = nought }

-- the rows v' - v <= 0 and v - v' <= 0 of variable v and of the further ones, m variables in all
abbrev pub keep_from : ℕ → ℕ → ℕ → PlainPiece
keep_from n v zero = []
keep_from n v (suc m) = change_row n v (neg unit) unit ∷ change_row n v unit (neg unit) ∷ keep_from n (suc v) m

-- for each of n variables v, in order, the rows v' - v <= 0 and v - v' <= 0
abbrev pub keep_rows : ℕ → PlainPiece
keep_rows n = keep_from n zero n
