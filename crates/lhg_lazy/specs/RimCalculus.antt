-- Which pieces hold the rim of a region and the guards cut to it, in which order, and which lists are formed for them?
use Rattle.std.specs.Prelude.{ℕ, List, [], ◌∷◌, length, Option, Some, None, slice_get}
use Rattle.std.specs.List.{range_with_len}
use Rattle.lhg_num.specs.FracArithmetic.{frac_arithmetic}
use Rattle.lhg_num.specs.Marked.{Marked, done, and_then, valued, each}
use Rattle.lhg_row.specs.Piece.{PlainPiece}
use Rattle.lhg_row.specs.Eliminate.{each_joined}
use Rattle.lhg_row.specs.Lists.{listed, counted_pieces, meet_lists}
use Rattle.lhg_motion.specs.CrossCalculus.{cross}
use Rattle.lhg_plant.specs.Plant.{PlainLocation, PlainPlant}
use Rattle.lhg_plant.specs.Region.{PlainRegion, PlainGuards}
use Rattle.lhg_plant.specs.Controller.{PlainController}
use Rattle.lhg_plant.specs.Invariants.{pieces_at, invariants}
use Rattle.lhg_plant.specs.OutCalculus as outs
use Rattle.lhg_ctl.specs.Making.{source_at}

-- ---- away
-- the states outside a region, location by location
unfoldable pub away : PlainPlant → PlainRegion → Marked PlainRegion
away a region = and_then (invariants a) (λ invs. outs.away (length a.vars) invs region)

-- ---- rim
-- the states of one piece with a flow through one of these pieces, in order, into the same piece
abbrev pub rim_from : ℕ → PlainPiece → List PlainPiece → PlainPiece → Marked (List PlainPiece)
rim_from n flow [] s = done []
rim_from n flow (q ∷ qs) s = and_then (cross frac_arithmetic n s q q flow) (λ o. valued (listed o) (rim_from n flow qs s))

-- those of each piece of a list, in order
unfoldable pub rim_list : ℕ → PlainPiece → List PlainPiece → List PlainPiece → Marked (List PlainPiece)
rim_list n flow here outside = and_then (each_joined (rim_from n flow outside) here) counted_pieces

-- the flow rows of a location, where it is there
abbrev pub flow_in : Option PlainLocation → PlainPiece
flow_in None = []
flow_in (Some place) = place.flow

abbrev pub flow_at : PlainPlant → ℕ → PlainPiece
flow_at a l = flow_in (slice_get a.locs l)

-- the rim of a region in one location, where the states outside it are given
abbrev pub rim_at : PlainPlant → PlainRegion → PlainRegion → ℕ → Marked (List PlainPiece)
rim_at a region away l = rim_list (length a.vars) (flow_at a l) (pieces_at region l) (pieces_at away l)

-- that of each location
unfoldable pub rim : PlainPlant → PlainRegion → PlainRegion → Marked PlainRegion
rim a region away = each (rim_at a region away) (range_with_len 0 (length a.locs))

-- ---- candidate
-- the states of the guard of one switch in the rim of the location that it leaves
abbrev pub cut_at : PlainPlant → PlainGuards → PlainRegion → ℕ → Marked (List PlainPiece)
cut_at a guards rim e = meet_lists frac_arithmetic (length a.vars) (pieces_at guards e) (pieces_at rim (source_at a e))

-- the guards of all switches, cut to the rim
unfoldable pub cut_guards : PlainPlant → PlainGuards → PlainRegion → Marked PlainGuards
cut_guards a guards rim = each (cut_at a guards rim) (range_with_len 0 (length a.switches))

-- the region with these guards
abbrev pub candidate : PlainPlant → PlainRegion → PlainGuards → PlainRegion → Marked PlainController
candidate a region guards rim = valued (λ gs. record { region = region; guards = gs }) (cut_guards a guards rim)
