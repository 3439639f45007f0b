-- What are the rims of known regions, and the guards cut to them, by computation alone?
use Rattle.std.specs.Prelude.{pos, negsuc, [], ◌∷◌, codes}
use Rattle.std.proofs.Common.{refl}
use Rattle.lhg_math.specs.Gcd.{gcd}
use Rattle.lhg_math.specs.Number.{ratio_suc, ratio, add, mul, neg, sub, whole, lt, nought, unit, inverse, quot, half, mid}
use Rattle.lhg_row.specs.Piece.{PlainPiece}
use Rattle.lhg_row.specs.Trim.{trim}
use Rattle.lhg_row.specs.Eliminate.{eliminate}
use Rattle.lhg_row.specs.Pieces.{make}
use Rattle.lhg_row.specs.Lists.{minus, meet_lists}
use Rattle.lhg_row.specs.Worked.{weak, one, minus_one}
use Rattle.lhg_row.specs.WorkedPieces.{at_most, below, not_below, above, SamePieces}
use Rattle.lhg_motion.specs.CrossCalculus.{cross}
use Rattle.lhg_plant.specs.declared.plants.Side.TheVariants.{Ctl}
use Rattle.lhg_plant.specs.Plant.{PlainPlant}
use Rattle.lhg_plant.specs.Region.{PlainRegion}
use Rattle.lhg_plant.specs.Invariants.{pieces_at, invariants}
use Rattle.lhg_plant.specs.OutCalculus as outs
use Rattle.lhg_lazy.specs.RimCalculus.{away, rim_list, rim, cut_guards}

-- x rises at 1 to 2, from 0 to 40; the controller may reset, and x stays
abbrev pub heater : PlainPlant
heater = record {
  vars = codes "x" ∷ [];
  locs = record { name = codes "heat"; inv = not_below (pos 0) ∷ at_most (pos 40) ∷ []; flow = not_below (negsuc 0) ∷ at_most (pos 2) ∷ []; safe = [] } ∷ [];
  switches = record { name = codes "reset"; from = 0; to = 0; side = Ctl; jump = weak (minus_one ∷ one ∷ []) (pos 0) ∷ weak (one ∷ minus_one ∷ []) (pos 0) ∷ [] } ∷ [];
}

-- from 18 to 22
abbrev pub comfort : PlainPiece
comfort = not_below (negsuc 17) ∷ at_most (pos 22) ∷ []

-- from 18 to 22, without 22
abbrev pub without_end : PlainPiece
without_end = not_below (negsuc 17) ∷ below (pos 22) ∷ []

-- 22 alone
abbrev pub hottest : PlainPiece
hottest = not_below (negsuc 21) ∷ at_most (pos 22) ∷ []

-- the region of one piece
abbrev pub of_piece : PlainPiece → PlainRegion
of_piece piece = (piece ∷ []) ∷ []

-- what is outside of it, and its rim
abbrev pub outside_of : PlainPiece → PlainRegion
outside_of piece = (away heater (of_piece piece)).value

abbrev pub rim_of : PlainPiece → PlainRegion
rim_of piece = (rim heater (of_piece piece) (outside_of piece)).value

-- outside of 18 to 22 are the states below and those above; the rim is 22, and a guard from 18 to 22 is cut to it. Without 22 there is no rim
pub record RimRows : Type 0 where
  pub outside : SamePieces (pieces_at (outside_of comfort) 0) ((not_below (pos 0) ∷ below (pos 18) ∷ []) ∷ (above (negsuc 21) ∷ at_most (pos 40) ∷ []) ∷ [])
  pub closed : SamePieces (pieces_at (rim_of comfort) 0) (hottest ∷ [])
  pub open_end : SamePieces (pieces_at (rim_of without_end) 0) []
  pub cut : SamePieces (pieces_at (cut_guards heater (of_piece comfort) (rim_of comfort)).value 0) (hottest ∷ [])

-- ---- by computation
pub rim_rows : RimRows
unfolding gcd ratio_suc ratio add mul neg sub whole lt nought unit inverse quot half mid trim eliminate make minus meet_lists cross invariants outs.away away rim_list rim cut_guards
rim_rows = record {
  outside = refl;
  closed = refl;
  open_end = refl;
  cut = refl;
}
