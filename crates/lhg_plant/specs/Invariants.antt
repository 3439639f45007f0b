-- Which piece is the invariant of each location?
use Rattle.std.specs.Prelude.{ℕ, List, [], length, get_or, slice_get, Option, Some, None}
use Rattle.lhg_num.specs.FracArithmetic.{frac_arithmetic}
use Rattle.lhg_num.specs.Marked.{Marked, done, valued, each}
use Rattle.lhg_row.specs.Piece.{PlainPiece}
use Rattle.lhg_row.specs.Pieces.{make}
use Rattle.lhg_row.specs.Lists.{listed}
use Rattle.lhg_plant.specs.Plant.{PlainLocation, PlainPlant}
use Rattle.lhg_plant.specs.Region.{PlainRegion}

-- the pieces of one location of a region
abbrev pub pieces_at : PlainRegion → ℕ → List PlainPiece
pieces_at region l = get_or region l []

-- the piece of the invariant's rows over n variables, or no piece where these have no point
abbrev pub invariant_list : ℕ → PlainLocation → Marked (List PlainPiece)
invariant_list n l = valued (λ o. listed o []) (make frac_arithmetic n l.inv)

-- the same where the location is there
abbrev pub invariant_of : ℕ → Option PlainLocation → Marked (List PlainPiece)
invariant_of n None = done []
invariant_of n (Some l) = invariant_list n l

-- that of one location of a plant
abbrev pub invariant_at : PlainPlant → ℕ → Marked (List PlainPiece)
invariant_at a l = invariant_of (length a.vars) (slice_get a.locs l)

-- those of all locations
unfoldable pub invariants : PlainPlant → Marked PlainRegion
invariants a = each (invariant_list (length a.vars)) a.locs
