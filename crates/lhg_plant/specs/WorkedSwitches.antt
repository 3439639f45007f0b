-- What do the sets of switches give in a known plant?
use Rattle.std.specs.Prelude.{◌≡◌, ℕ, pos, negsuc, List, [], ◌∷◌, map, codes}
use Rattle.lhg_row.specs.Piece.{PlainPiece}
use Rattle.lhg_row.specs.Worked.{weak, one, minus_one}
use Rattle.lhg_row.specs.WorkedPieces.{at_most, not_below, above, SamePieces}
use Rattle.lhg_plant.specs.declared.plants.Side.TheVariants.{Ctl, Env, Pick}
use Rattle.lhg_plant.specs.Plant.{PlainPlant}
use Rattle.lhg_plant.specs.Region.{PlainRegion}
use Rattle.lhg_plant.specs.Invariants.{pieces_at}
use Rattle.lhg_plant.specs.Pre.{pre}
use Rattle.lhg_plant.specs.OutCalculus.{hit_pieces, PlainOuts, out}
use Rattle.lhg_plant.specs.BackCalculus.{back, near_at, guards}

-- 0 <= x <= 10
abbrev pub levels : PlainPiece
levels = not_below (pos 0) ∷ at_most (pos 10) ∷ []

-- the plant may go from a to b, and x stays; the controller may go from a to b, and x then grows by at most 1, by what the plant
-- picks or by what the controller picks
abbrev pub two_ways : PlainPlant
two_ways = record {
  vars = codes "x" ∷ [];
  locs = record { name = codes "a"; inv = levels; flow = []; safe = [] ∷ [] } ∷ record { name = codes "b"; inv = levels; flow = []; safe = [] } ∷ [];
  switches =
      record { name = codes "fall"; from = 0; to = 1; side = Env; jump = weak (minus_one ∷ one ∷ []) (pos 0) ∷ weak (one ∷ minus_one ∷ []) (pos 0) ∷ [] }
      ∷ record { name = codes "go"; from = 0; to = 1; side = Ctl; jump = weak (minus_one ∷ one ∷ []) (pos 1) ∷ weak (one ∷ minus_one ∷ []) (pos 0) ∷ [] }
      ∷ record { name = codes "move"; from = 0; to = 1; side = Pick; jump = weak (minus_one ∷ one ∷ []) (pos 1) ∷ weak (one ∷ minus_one ∷ []) (pos 0) ∷ [] }
      ∷ [];
}

-- all levels of a, and those of b up to 5
abbrev pub up_to_five : PlainRegion
up_to_five = (levels ∷ []) ∷ ((not_below (pos 0) ∷ at_most (pos 5) ∷ []) ∷ []) ∷ []

-- the levels above 5
abbrev pub above_five : PlainPiece
above_five = above (negsuc 4) ∷ at_most (pos 10) ∷ []

-- the pieces of location l of what out gives
abbrev pub hits_seen : PlainOuts → ℕ → List PlainPiece
hits_seen o l = pieces_at (map hit_pieces o.hits) l

-- outside are the levels above 5 of b; from the same levels of a the plant goes there; up to 4 the controller can go, and stays in the
-- region; where it picks the result, up to 5
pub record SwitchRows : Type 0 where
  pub into_b : SamePieces (pre two_ways 0 (above_five ∷ [])).value (above_five ∷ [])
  pub away_a : SamePieces (pieces_at (out two_ways up_to_five).value.away 0) []
  pub away_b : SamePieces (pieces_at (out two_ways up_to_five).value.away 1) (above_five ∷ [])
  pub hits_a : SamePieces (hits_seen (out two_ways up_to_five).value 0) (above_five ∷ [])
  pub hits_b : SamePieces (hits_seen (out two_ways up_to_five).value 1) []
  pub back_fall : SamePieces (pieces_at (back two_ways up_to_five (out two_ways up_to_five).value.away).value 0) []
  pub back_go : SamePieces (pieces_at (back two_ways up_to_five (out two_ways up_to_five).value.away).value 1) ((not_below (pos 0) ∷ at_most (pos 4) ∷ []) ∷ [])
  pub back_move : SamePieces (pieces_at (back two_ways up_to_five (out two_ways up_to_five).value.away).value 2) ((not_below (pos 0) ∷ at_most (pos 5) ∷ []) ∷ [])
  pub guard_go : SamePieces (pieces_at (guards two_ways up_to_five).value 1) ((not_below (pos 0) ∷ at_most (pos 4) ∷ []) ∷ [])
  pub guard_move : SamePieces (pieces_at (guards two_ways up_to_five).value 2) ((not_below (pos 0) ∷ at_most (pos 5) ∷ []) ∷ [])
  pub near_a : SamePieces (near_at two_ways up_to_five (back two_ways up_to_five (out two_ways up_to_five).value.away).value 0).value (above_five ∷ [])
