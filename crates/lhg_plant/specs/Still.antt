-- When does a plant stand still: no flow moves any variable, and no switch is there?
use Rattle.std.specs.Prelude.{◌≡◌, ℕ, zero, suc, false, List, [], ◌∷◌, length, replicate}
use Rattle.lhg_math.specs.Number.{Number, neg, nought, unit}
use Rattle.lhg_row.specs.Row.{PlainRow}
use Rattle.lhg_row.specs.Piece.{PlainPiece}
use Rattle.lhg_math.specs.Tests.{AllOf}
use Rattle.lhg_plant.specs.Plant.{PlainPlant}

-- over n variables the coefficient c at variable v, counted from 0, and 0 at all others
abbrev pub axis : ℕ → ℕ → Number → List Number
axis zero v c = []
axis (suc n) zero c = c ∷ replicate n nought
axis (suc n) (suc v) c = nought ∷ axis n v c

-- over n variables the row c * v <= 0
abbrev pub axis_row : ℕ → ℕ → Number → PlainRow
axis_row n v c = record { coefs = axis n v c; strict = false; bound = nought }

-- the rows v <= 0 and -v <= 0 of variable v and of the further ones, m variables in all
abbrev pub still_from : ℕ → ℕ → ℕ → PlainPiece
still_from n v zero = []
still_from n v (suc m) = axis_row n v unit ∷ axis_row n v (neg unit) ∷ still_from n (suc v) m

-- for each of n variables v, in order, the rows v <= 0 and -v <= 0
abbrev pub still_rows : ℕ → PlainPiece
still_rows n = still_from n zero n

-- the flow rows of each location are those of its number of variables
abbrev pub IsStill : PlainPlant → Type 0
IsStill a = AllOf (λ l. l.flow ≡ still_rows (length a.vars)) a.locs

-- the list of switches is empty
abbrev pub HasNoSwitch : PlainPlant → Type 0
HasNoSwitch a = a.switches ≡ []
