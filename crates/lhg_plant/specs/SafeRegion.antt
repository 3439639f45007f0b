-- Which pieces are the safe states of a plant, in which order, and which numbers and lists are formed for them?
use Rattle.std.specs.Prelude.{ℕ, List, [], ◌∷◌, length}
use Rattle.lhg_num.specs.FracArithmetic.{frac_arithmetic}
use Rattle.lhg_num.specs.Marked.{Marked, done, and_then, each}
use Rattle.lhg_row.specs.Piece.{PlainPiece}
use Rattle.lhg_row.specs.Lists.{meet_each, counted_pieces}
use Rattle.lhg_plant.specs.Plant.{PlainLocation, PlainPlant}
use Rattle.lhg_plant.specs.Region.{PlainRegion}
use Rattle.lhg_plant.specs.Invariants.{invariant_list}

-- for each safe line, in order, the piece of the invariant's rows followed by the line's, where there is one; nothing is formed for a
-- location whose invariant has no piece
abbrev pub safe_within : ℕ → PlainLocation → List PlainPiece → Marked (List PlainPiece)
safe_within n l [] = done []
safe_within n l (inv ∷ invs) = and_then (meet_each frac_arithmetic n l.inv l.safe) counted_pieces

-- those of one location over n variables, whose invariant is made first
abbrev pub safe_list : ℕ → PlainLocation → Marked (List PlainPiece)
safe_list n l = and_then (invariant_list n l) (safe_within n l)

-- those of each location
unfoldable pub safe_region : PlainPlant → Marked PlainRegion
safe_region a = each (safe_list (length a.vars)) a.locs
