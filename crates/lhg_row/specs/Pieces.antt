-- What is the piece of a list of rows, and which pieces are made of pieces?
use Rattle.std.specs.Prelude.{ℕ, zero, suc, ◌-◌, Bool, true, false, cond, [], ◌∷◌, ◌++◌, map, length, remove, Option, Some, None}
use Rattle.lhg_num.specs.Arithmetic.{Arithmetic}
use Rattle.lhg_num.specs.Marked.{Marked, done, and_then, valued}
use Rattle.lhg_row.specs.Row.{PlainRow, relaxed}
use Rattle.lhg_row.specs.Piece.{PlainPiece}
use Rattle.lhg_row.specs.Moves.{negated}
use Rattle.lhg_row.specs.MarkedTests.{marked_all}
use Rattle.lhg_row.specs.Trim.{trim}
use Rattle.lhg_row.specs.Eliminate.{row_at, eliminate_last, is_empty}

-- whether rows over n variables have no point
abbrev pub are_empty : Arithmetic → ℕ → PlainPiece → Marked Bool
are_empty a n rows = and_then (trim a rows) (is_empty a n)

-- whether the rows over n variables entail the row r: they have no point at which r fails
abbrev pub entails : Arithmetic → ℕ → PlainPiece → PlainRow → Marked Bool
entails a n rows r = are_empty a n (rows ++ negated r ∷ [])

-- ---- make
-- the list without its row i, where the others entail it
abbrev pub thin_at : Arithmetic → ℕ → ℕ → PlainPiece → Marked PlainPiece
thin_at a n i rows = valued (λ b. cond b (remove rows i) rows) (entails a n (remove rows i) (row_at rows i))

-- the list without those of its first i rows, from the last of them to the first, that the rows still there entail
abbrev pub thin : Arithmetic → ℕ → ℕ → PlainPiece → Marked PlainPiece
thin a n zero rows = done rows
thin a n (suc i) rows = and_then (thin_at a n i rows) (thin a n i)

-- no piece where the trimmed rows are empty, else the piece that is left of them
abbrev pub made : Arithmetic → ℕ → PlainPiece → Bool → Marked (Option PlainPiece)
made a n rows true = done None
made a n rows false = valued Some (thin a n (length rows) rows)

-- the piece of the rows over n variables, where they have a point
unfoldable pub make : Arithmetic → ℕ → PlainPiece → Marked (Option PlainPiece)
make a n rows = and_then (trim a rows) (λ rs. and_then (is_empty a n rs) (made a n rs))

-- ---- made of pieces
-- the piece of the common points
abbrev pub meet : Arithmetic → ℕ → PlainPiece → PlainPiece → Marked (Option PlainPiece)
meet a n p q = make a n (p ++ q)

-- the piece of the relaxed rows
abbrev pub closure : Arithmetic → ℕ → PlainPiece → Marked (Option PlainPiece)
closure a n p = make a n (map relaxed p)

-- whether q entails each row of p
abbrev pub includes : Arithmetic → ℕ → PlainPiece → PlainPiece → Marked Bool
includes a n p q = marked_all (entails a n q) p

-- ---- project
-- the piece that the first variables of a list over n variables make
abbrev pub project : Arithmetic → ℕ → ℕ → PlainPiece → Marked (Option PlainPiece)
project a n kept rows = and_then (eliminate_last a kept (n - kept) rows) (make a kept)
