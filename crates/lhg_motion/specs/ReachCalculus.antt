-- Which pieces does reach find, in which order, and how many layers does it count?
use Rattle.std.specs.Prelude.{ℕ, zero, suc, Bool, true, false, cond, List, [], ◌∷◌, ◌++◌, Option, Some, None}
use Rattle.lhg_num.specs.Arithmetic.{Arithmetic}
use Rattle.lhg_num.specs.Marked.{Marked, done, and_then, walk}
use Rattle.lhg_row.specs.Piece.{PlainPiece}
use Rattle.lhg_row.specs.Lists.{counted_pieces, is_past_list, covered}
use Rattle.lhg_motion.specs.CrossCalculus.{cross}
use Rattle.lhg_motion.specs.Found.{PlainFound, PlainReached, pieces_of}

-- a piece with its place in a list
pub record Placed : Type 0 where
  pub place : ℕ
  pub piece : PlainPiece

-- each piece with its place, counted from k
abbrev pub numbered : ℕ → List PlainPiece → List Placed
numbered k [] = []
numbered k (p ∷ ps) = record { place = k; piece = p } ∷ numbered (suc k) ps

-- the piece of a crossing through a way and into a known piece, as it is found in a layer
abbrev pub found_by : Placed → Placed → ℕ → PlainPiece → PlainFound
found_by way into layer p = record { piece = p; through = way.place; to = into.place; layer = layer }

-- the list with the found piece at its end, or the list alone where the piece is covered
abbrev pub added_unless : Bool → List PlainFound → PlainFound → List PlainFound
added_unless true new f = new
added_unless false new f = new ++ f ∷ []

-- the new pieces of a layer so far, with one more where there is a piece that the known ones and the new ones do not cover
abbrev pub add_new : Arithmetic → ℕ → List PlainPiece → List PlainFound → (PlainPiece → PlainFound) → Option PlainPiece → Marked (List PlainFound)
add_new a n known new as_found None = done new
add_new a n known new as_found (Some p) = and_then (covered a n (p ∷ []) (known ++ pieces_of new)) (λ b. done (added_unless b new (as_found p)))

-- the new pieces after one crossing
abbrev pub attempt : Arithmetic → ℕ → PlainPiece → List PlainPiece → ℕ → Placed → PlainPiece → List PlainFound → Placed → Marked (List PlainFound)
attempt a n flow known layer into start new way =
    and_then (cross a n start way.piece into.piece flow) (add_new a n known new (found_by way into layer))

-- after the crossings through each of the ways
abbrev pub through_ways : Arithmetic → ℕ → PlainPiece → List PlainPiece → ℕ → List Placed → Placed → List PlainFound → PlainPiece → Marked (List PlainFound)
through_ways a n flow known layer ways into new start = walk (attempt a n flow known layer into start) new ways

-- after those from each of the near pieces
abbrev pub from_near : Arithmetic → ℕ → PlainPiece → List PlainPiece → ℕ → List PlainPiece → List Placed → List PlainFound → Placed → Marked (List PlainFound)
from_near a n flow known layer near ways new into = walk (through_ways a n flow known layer ways into) new near

-- the new pieces of one layer: after those into each of the known pieces
unfoldable pub layer_of : Arithmetic → ℕ → PlainPiece → List PlainPiece → List PlainPiece → List PlainPiece → ℕ → Marked (List PlainFound)
layer_of a n flow near ways known layer = walk (from_near a n flow known layer near (numbered 0 ways)) [] (numbered 0 known)

-- ---- layer after layer
-- what is found, with the new pieces of one layer more
abbrev pub with_layer : PlainReached → List PlainFound → PlainReached
with_layer r new = record { found = r.found ++ new; layers = suc r.layers }

-- a layer without a new piece is not counted and ends the work; else the list is counted, and past its limit the work ends
abbrev pub go_on : List PlainPiece → PlainReached → List PlainFound → Marked PlainReached → Marked PlainReached
go_on bad so_far [] on = done so_far
go_on bad so_far (f ∷ fs) on =
    let next = with_layer so_far (f ∷ fs) in
    and_then (counted_pieces (bad ++ pieces_of next.found)) (λ ps. cond (is_past_list ps) (done next) on)

-- at most so many layers more
abbrev pub reach_within : ℕ → Arithmetic → ℕ → PlainPiece → List PlainPiece → List PlainPiece → List PlainPiece → PlainReached → Marked PlainReached
reach_within zero a n flow bad near ways so_far = done so_far
reach_within (suc fuel) a n flow bad near ways so_far =
    and_then (layer_of a n flow near ways (bad ++ pieces_of so_far.found) (suc so_far.layers)) (λ new.
    let on = reach_within fuel a n flow bad near ways (with_layer so_far new) in
    go_on bad so_far new on)

-- how many layers may be counted: each adds a piece, so after as many the list is past its limit
abbrev pub layer_limit : ℕ
layer_limit = 4097

-- nothing is found before the first layer
abbrev pub none_reached : PlainReached
none_reached = record { found = []; layers = 0 }

-- the bad pieces and what is found from them
unfoldable pub reach : Arithmetic → ℕ → List PlainPiece → List PlainPiece → PlainPiece → Marked PlainReached
reach a n bad near flow = and_then (counted_pieces (bad ++ near)) (λ ways. reach_within layer_limit a n flow bad near ways none_reached)
