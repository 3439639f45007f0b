-- Which lists of pieces are made of lists of pieces?
use Rattle.std.specs.Prelude.{ℕ, ◌+◌, Bool, true, false, ◌||◌, List, [], ◌∷◌, ◌++◌, length, nat_lt, Option, Some, None}
use Rattle.lhg_num.specs.Arithmetic.{Arithmetic}
use Rattle.lhg_num.specs.Marked.{Marked, done, and_then, valued, walk}
use Rattle.lhg_row.specs.Piece.{PlainPiece}
use Rattle.lhg_row.specs.Moves.{negated}
use Rattle.lhg_row.specs.Eliminate.{each_joined}
use Rattle.lhg_row.specs.Pieces.{make, meet}

-- how many pieces a list may have
abbrev pub piece_limit : ℕ
piece_limit = 4096

-- how many rows the pieces of a list may have in all
abbrev pub list_row_limit : ℕ
list_row_limit = 16384

-- how many rows the pieces have in all
abbrev pub row_count : List PlainPiece → ℕ
row_count [] = 0
row_count (p ∷ ps) = length p + row_count ps

-- the list has more pieces than it may, or more rows
abbrev pub is_past_list : List PlainPiece → Bool
is_past_list ps = nat_lt piece_limit (length ps) || nat_lt list_row_limit (row_count ps)

-- the list, with the mark that it is past its limit
abbrev pub counted_pieces : List PlainPiece → Marked (List PlainPiece)
counted_pieces ps = record { value = ps; wide = false; rows = false; pieces = is_past_list ps }

-- the piece and then the list, or the list alone where there is no piece
abbrev pub listed : Option PlainPiece → List PlainPiece → List PlainPiece
listed None ps = ps
listed (Some p) ps = p ∷ ps

-- ---- minus
-- for each row of q, in order, what of p is at the rows of q before it and not at that row
abbrev pub cut_off : Arithmetic → ℕ → PlainPiece → PlainPiece → Marked (List PlainPiece)
cut_off a n p [] = done []
cut_off a n p (r ∷ q) = and_then (make a n (p ++ negated r ∷ [])) (λ o. valued (listed o) (cut_off a n (p ++ r ∷ []) q))

-- p itself where it does not meet q, else what is cut off
abbrev pub apart_or_cut : Arithmetic → ℕ → PlainPiece → PlainPiece → Option PlainPiece → Marked (List PlainPiece)
apart_or_cut a n p q None = done (p ∷ [])
apart_or_cut a n p q (Some met) = cut_off a n p q

-- one piece by one piece
abbrev pub minus_piece : Arithmetic → ℕ → PlainPiece → PlainPiece → Marked (List PlainPiece)
minus_piece a n p q = and_then (meet a n p q) (apart_or_cut a n p q)

-- a list by one piece
abbrev pub minus_one : Arithmetic → ℕ → List PlainPiece → PlainPiece → Marked (List PlainPiece)
minus_one a n ps q = and_then (each_joined (λ p. minus_piece a n p q) ps) counted_pieces

-- a list by a list, piece by piece of the second
unfoldable pub minus : Arithmetic → ℕ → List PlainPiece → List PlainPiece → Marked (List PlainPiece)
minus a n ps qs = walk (minus_one a n) ps qs

-- ---- covered
-- the list has no member
abbrev pub is_nil : List PlainPiece → Bool
is_nil [] = true
is_nil (p ∷ ps) = false

-- whether nothing of the first list is left without the second
abbrev pub covered : Arithmetic → ℕ → List PlainPiece → List PlainPiece → Marked Bool
covered a n ps qs = valued is_nil (minus a n ps qs)

-- ---- meet_lists
-- the meets of p with each of the list, where there are some
abbrev pub meet_each : Arithmetic → ℕ → PlainPiece → List PlainPiece → Marked (List PlainPiece)
meet_each a n p [] = done []
meet_each a n p (q ∷ qs) = and_then (meet a n p q) (λ o. valued (listed o) (meet_each a n p qs))

-- the meets of each of the first list with each of the second, in order
unfoldable pub meet_lists : Arithmetic → ℕ → List PlainPiece → List PlainPiece → Marked (List PlainPiece)
meet_lists a n ps qs = and_then (each_joined (λ p. meet_each a n p qs) ps) counted_pieces
