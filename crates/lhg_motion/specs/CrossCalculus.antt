-- Which rows say that there is one straight flow, and which piece do they leave?
use Rattle.std.specs.Prelude.{ℕ, ◌+◌, true, [], ◌∷◌, ◌++◌, map, replicate, Option}
use Rattle.lhg_math.specs.Number.{Number, neg, nought, unit}
use Rattle.lhg_num.specs.Arithmetic.{Arithmetic}
use Rattle.lhg_num.specs.Marked.{Marked, and_then, valued, each, marked_add, marked_mul}
use Rattle.lhg_row.specs.Row.{PlainRow, relaxed}
use Rattle.lhg_row.specs.Piece.{PlainPiece}
use Rattle.lhg_row.specs.Widened.{widened}
use Rattle.lhg_row.specs.Trim.{trim}
use Rattle.lhg_row.specs.Pieces.{project}

-- the product with 2, which is formed as 1 + 1
abbrev pub twice : Arithmetic → Number → Marked Number
twice a x = and_then (marked_add a unit unit) (λ two. marked_mul a two x)

-- the row at the middle of x and y, times 2
abbrev pub at_middle : Arithmetic → PlainRow → Marked PlainRow
at_middle a r = valued (λ b. record { coefs = r.coefs ++ r.coefs ++ nought ∷ []; strict = r.strict; bound = b }) (twice a r.bound)

-- the flow row at (y - x) / t, times t
abbrev pub at_flow : PlainRow → PlainRow
at_flow r = record { coefs = map neg r.coefs ++ r.coefs ++ neg r.bound ∷ []; strict = r.strict; bound = nought }

-- -t < 0
abbrev pub forward : ℕ → PlainRow
forward n = record { coefs = replicate (n + n) nought ++ neg unit ∷ []; strict = true; bound = nought }

-- the rows of a straight flow, over x, y and t
abbrev pub cross_rows : Arithmetic → ℕ → PlainPiece → PlainPiece → PlainPiece → PlainPiece → Marked PlainPiece
cross_rows a n start through into flow =
    valued (λ middle.
    map (widened 0 (n + 1)) start
    ++ map (widened n 1) into
    ++ map (λ r. widened 0 (n + 1) (relaxed r)) through
    ++ map (λ r. widened n 1 (relaxed r)) through
    ++ middle
    ++ map at_flow flow
    ++ forward n ∷ [])
    (each (at_middle a) through)

-- the piece of the points of the first with a straight flow through the second into the third, where there are some
unfoldable pub cross : Arithmetic → ℕ → PlainPiece → PlainPiece → PlainPiece → PlainPiece → Marked (Option PlainPiece)
cross a n start through into flow = and_then (cross_rows a n start through into flow) (λ rows. and_then (trim a rows) (project a (n + n + 1) n))
