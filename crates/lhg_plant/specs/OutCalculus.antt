-- Which pieces hold the states from which the plant leaves a region by a switch, in which order, and which lists are formed for them?
use Rattle.std.specs.Prelude.{ℕ, suc, Bool, true, false, cond, List, [], ◌∷◌, ◌++◌, map, length, nat_eq, Option, Some, None}
use Rattle.std.specs.List.{range_with_len}
use Rattle.lhg_num.specs.FracArithmetic.{frac_arithmetic}
use Rattle.lhg_num.specs.Marked.{Marked, done, and_then, valued, each, walk}
use Rattle.lhg_row.specs.Piece.{PlainPiece}
use Rattle.lhg_row.specs.Pieces.{meet}
use Rattle.lhg_row.specs.Lists.{counted_pieces, minus, covered}
use Rattle.lhg_plant.specs.declared.plants.Side.{Side}
use Rattle.lhg_plant.specs.declared.plants.Side.TheVariants.{Ctl, Env, Pick}
use Rattle.lhg_plant.specs.Plant.{PlainSwitch, PlainPlant}
use Rattle.lhg_plant.specs.Region.{PlainRegion}
use Rattle.lhg_plant.specs.Invariants.{pieces_at, invariants}
use Rattle.lhg_plant.specs.Pre.{pre_each}

-- ---- the states outside the region
-- those of one location
abbrev pub away_at : ℕ → PlainRegion → PlainRegion → ℕ → Marked (List PlainPiece)
away_at n invs region l = minus frac_arithmetic n (pieces_at invs l) (pieces_at region l)

-- those of each location
unfoldable pub away : ℕ → PlainRegion → PlainRegion → Marked PlainRegion
away n invs region = each (away_at n invs region) (range_with_len 0 (length invs))

-- ---- hits
-- states of the region in one piece, from each of which an uncontrollable switch leads into a piece outside the region
pub record PlainHit : Type 0 where
  pub switch : ℕ
  pub into : PlainPiece
  pub piece : PlainPiece

-- the pieces of the hits
abbrev pub hit_pieces : List PlainHit → List PlainPiece
hit_pieces hits = map (λ h. h.piece) hits

-- the hits, with one more at the end unless it is covered
abbrev pub hit_unless : List PlainHit → ℕ → PlainPiece → PlainPiece → Bool → List PlainHit
hit_unless hits e into piece true = hits
hit_unless hits e into piece false = hits ++ record { switch = e; into = into; piece = piece } ∷ []

-- the hits, with one more where there is a piece that those before do not cover
abbrev pub hit_where : ℕ → List PlainHit → ℕ → PlainPiece → Option PlainPiece → Marked (List PlainHit)
hit_where n hits e into None = done hits
hit_where n hits e into (Some piece) = valued (hit_unless hits e into piece) (covered frac_arithmetic n (piece ∷ []) (hit_pieces hits))

-- by switch e from the states q into a piece outside, in one piece of the region
abbrev pub hit_piece : ℕ → ℕ → PlainPiece → PlainPiece → List PlainHit → PlainPiece → Marked (List PlainHit)
hit_piece n e into q hits s = and_then (meet frac_arithmetic n q s) (hit_where n hits e into)

-- in each piece of the region, in order
abbrev pub hit_region : ℕ → List PlainPiece → ℕ → PlainPiece → List PlainHit → PlainPiece → Marked (List PlainHit)
hit_region n here e into hits q = walk (hit_piece n e into q) hits here

-- by switch e with these jump rows into one piece outside
abbrev pub hit_into : ℕ → List PlainPiece → List PlainPiece → ℕ → PlainPiece → List PlainHit → PlainPiece → Marked (List PlainHit)
hit_into n invs here e jump hits into = and_then (pre_each n jump into invs) (walk (hit_region n here e into) hits)

-- by switch e, where it is uncontrollable, into each piece outside
abbrev pub hit_side : ℕ → List PlainPiece → List PlainPiece → List PlainPiece → ℕ → PlainPiece → List PlainHit → Side → Marked (List PlainHit)
hit_side n invs here outside e jump hits Ctl = done hits
hit_side n invs here outside e jump hits Pick = done hits
hit_side n invs here outside e jump hits Env = walk (hit_into n invs here e jump) hits outside

-- by a switch with its place in the plant's list, where it is uncontrollable and leaves location l
abbrev pub hit_by : ℕ → PlainRegion → PlainRegion → PlainRegion → ℕ → List PlainHit → ℕ × PlainSwitch → Marked (List PlainHit)
hit_by n invs away region l hits (e, w) =
    let here = hit_side n (pieces_at invs l) (pieces_at region l) (pieces_at away w.to) e w.jump hits w.side in
    cond (nat_eq w.from l) here (done hits)

-- each member of a list with its place, counted from k
abbrev pub numbered : {A : Type 0} → ℕ → List A → List (ℕ × A)
numbered k [] = []
numbered k (x ∷ xs) = (k, x) ∷ numbered (suc k) xs

-- the hits, with the mark that their pieces are past the limits of a list
abbrev pub counted_hits : List PlainHit → Marked (List PlainHit)
counted_hits hits = valued (λ ps. hits) (counted_pieces (hit_pieces hits))

-- the hits in location l, by each uncontrollable switch from it, in order
unfoldable pub hits_at : PlainPlant → PlainRegion → PlainRegion → PlainRegion → ℕ → Marked (List PlainHit)
hits_at a invs away region l = and_then (walk (hit_by (length a.vars) invs away region l) [] (numbered 0 a.switches)) counted_hits

-- ---- both
-- the states outside, and the hits, location by location
pub record PlainOuts : Type 0 where
  pub away : PlainRegion
  pub hits : List (List PlainHit)

-- the hits in all locations
abbrev pub outs_of : PlainPlant → PlainRegion → PlainRegion → PlainRegion → Marked PlainOuts
outs_of a invs region away = valued (λ hits. record { away = away; hits = hits }) (each (hits_at a invs away region) (range_with_len 0 (length a.locs)))

-- the states from which the plant leaves the region
unfoldable pub out : PlainPlant → PlainRegion → Marked PlainOuts
out a region = and_then (invariants a) (λ invs. and_then (away (length a.vars) invs region) (outs_of a invs region))
