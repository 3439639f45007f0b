-- What do contracts see of a region that the code holds?
use Rattle.std.specs.Prelude.{ℕ, List, [], map, get_or}
use Rattle.std.specs.Global.{Vec}
use Rattle.lhg_row.specs.Piece.{PlainPiece}
use Rattle.lhg_row.specs.System.{PlainSystem}
use Rattle.lhg_union.specs.PolyLists.{lines_of}

-- the pieces, location by location
abbrev pub polys_of : List (Vec PlainSystem) → List (List PlainSystem)
polys_of pieces = map (λ ps. ps.items) pieces

-- the pieces of one location
abbrev pub polys_at : List (Vec PlainSystem) → ℕ → List PlainSystem
polys_at pieces loc = get_or (polys_of pieces) loc []

-- the rows of each piece, location by location
abbrev pub plain_region : List (Vec PlainSystem) → List (List PlainPiece)
plain_region pieces = map lines_of (polys_of pieces)
