-- Is a controller valid, which state shows that it is not, and what is formed to decide it?
use Rattle.std.specs.Prelude.{ℕ, suc, List, [], ◌∷◌, ◌++◌, length, get_or, slice_get, Option, Some, None}
use Rattle.lhg_num.specs.FracArithmetic.{frac_arithmetic}
use Rattle.lhg_num.specs.Marked.{Marked, done, and_then, valued, each}
use Rattle.lhg_row.specs.Piece.{PlainPiece}
use Rattle.lhg_row.specs.Lists.{minus, meet_lists}
use Rattle.lhg_row.specs.Sample.{sample}
use Rattle.lhg_motion.specs.Found.{pieces_of}
use Rattle.lhg_motion.specs.ReachCalculus.{reach}
use Rattle.lhg_plant.specs.declared.plants.Side.{Side}
use Rattle.lhg_plant.specs.declared.plants.Side.TheVariants.{Ctl, Env, Pick}
use Rattle.lhg_plant.specs.Plant.{PlainPlant, PlainLocation, PlainSwitch}
use Rattle.lhg_plant.specs.State.{PlainState}
use Rattle.lhg_plant.specs.Region.{PlainRegion}
use Rattle.lhg_plant.specs.Controller.{PlainController}
use Rattle.lhg_plant.specs.SafeRegion.{safe_region}
use Rattle.lhg_plant.specs.Invariants.{pieces_at, invariants}
use Rattle.lhg_plant.specs.Pre.{pre}
use Rattle.lhg_plant.specs.OutCalculus.{PlainOuts, hit_pieces, numbered, out}
use Rattle.lhg_plant.specs.BackCalculus.{near_at}

-- valid, or a state that breaks the first part of validity that fails; a guard stands with its switch
pub data PlainVerdict : Type 0 where
  valid : PlainVerdict
  unsafe : (state : PlainState) → PlainVerdict
  bad_guard : (switch : ℕ) → (state : PlainState) → PlainVerdict
  escapes : (state : PlainState) → PlainVerdict

-- ---- lists of pieces
-- the pieces of one list, then those of another
abbrev pub followed : Marked (List PlainPiece) → Marked (List PlainPiece) → Marked (List PlainPiece)
followed first second = and_then first (λ ps. valued (λ qs. ps ++ qs) second)

-- the first piece of a list
abbrev pub first_of : List PlainPiece → Option PlainPiece
first_of [] = None
first_of (p ∷ ps) = Some p

-- the same piece, with one list more before it
abbrev pub one_later : Option (ℕ × PlainPiece) → Option (ℕ × PlainPiece)
one_later None = None
one_later (Some (j, piece)) = Some (suc j, piece)

-- the first piece of the first list that has one, with the place of the list
abbrev pub first_piece : List (List PlainPiece) → Option (ℕ × PlainPiece)
first_piece [] = None
first_piece ([] ∷ pss) = one_later (first_piece pss)
first_piece ((p ∷ ps) ∷ pss) = Some (0, p)

-- ---- the first part
-- the states of the region in one location that are not safe
abbrev pub unsafe_at : ℕ → PlainRegion → PlainRegion → ℕ × PlainLocation → Marked (List PlainPiece)
unsafe_at n safe region place = minus frac_arithmetic n (pieces_at region place.0) (pieces_at safe place.0)

-- those of each location
unfoldable pub unsafe_pieces : PlainPlant → PlainRegion → Marked PlainRegion
unsafe_pieces a region = and_then (safe_region a) (λ safe. each (unsafe_at (length a.vars) safe region) (numbered 0 a.locs))

-- ---- the second part
-- the states of the guard of switch e that are not in the region
abbrev pub outside_by : PlainPlant → PlainController → ℕ → PlainSwitch → Marked (List PlainPiece)
outside_by a c e w = minus frac_arithmetic (length a.vars) (get_or c.guards e []) (pieces_at c.region w.from)

-- those with no result in the target
abbrev pub stuck_by : PlainPlant → PlainController → ℕ → List PlainPiece → Marked (List PlainPiece)
stuck_by a c e target = and_then (pre a e target) (minus frac_arithmetic (length a.vars) (get_or c.guards e []))

-- those with a result in the target
abbrev pub led_by : PlainPlant → PlainController → ℕ → List PlainPiece → Marked (List PlainPiece)
led_by a c e target = and_then (pre a e target) (meet_lists frac_arithmetic (length a.vars) (get_or c.guards e []))

-- those with no result, then those with a result outside the region
abbrev pub unkept_by : PlainPlant → PlainRegion → PlainRegion → PlainController → ℕ → PlainSwitch → Marked (List PlainPiece)
unkept_by a invs away c e w = followed (stuck_by a c e (pieces_at invs w.to)) (led_by a c e (pieces_at away w.to))

-- the states that break the guard of a switch whose result the plant picks: those that are not in the region, then those that the switch
-- does not keep in it
unfoldable pub broken_ctl : PlainPlant → PlainRegion → PlainRegion → PlainController → ℕ → PlainSwitch → Marked (List PlainPiece)
broken_ctl a invs away c e w = followed (outside_by a c e w) (unkept_by a invs away c e w)

-- those that break the guard of a switch whose result the controller picks: those that are not in the region, then those with no
-- result in it
unfoldable pub broken_pick : PlainPlant → PlainController → ℕ → PlainSwitch → Marked (List PlainPiece)
broken_pick a c e w = followed (outside_by a c e w) (stuck_by a c e (pieces_at c.region w.to))

-- by the side of the switch; an uncontrollable one has no guard
abbrev pub broken_side : PlainPlant → PlainRegion → PlainRegion → PlainController → ℕ → PlainSwitch → Side → Marked (List PlainPiece)
broken_side a invs away c e w Ctl = broken_ctl a invs away c e w
broken_side a invs away c e w Env = done []
broken_side a invs away c e w Pick = broken_pick a c e w

-- of a switch with its place in the plant's list
abbrev pub broken_at : PlainPlant → PlainRegion → PlainRegion → PlainController → ℕ × PlainSwitch → Marked (List PlainPiece)
broken_at a invs away c e = broken_side a invs away c e.0 e.1 e.1.side

-- those of each switch, where the states outside the region are given
unfoldable pub broken_guards : PlainPlant → PlainController → PlainRegion → Marked (List (List PlainPiece))
broken_guards a c away = and_then (invariants a) (λ invs. each (broken_at a invs away c) (numbered 0 a.switches))

-- ---- the third part
-- what is found from bad pieces in one location, past the guards
abbrev pub found_from : PlainPlant → PlainController → List PlainPiece → ℕ × PlainLocation → Marked (List PlainPiece)
found_from a c bad place =
    and_then (near_at a c.region c.guards place.0) (λ near. valued (λ r. pieces_of r.found) (reach frac_arithmetic (length a.vars) bad near place.1.flow))

-- the states of the region in one location with an escape past the guards: the hits, then what is found from the states outside and
-- from the hits
unfoldable pub lost_at : PlainPlant → PlainController → PlainOuts → ℕ × PlainLocation → Marked (List PlainPiece)
lost_at a c outs place =
    let hits = hit_pieces (get_or outs.hits place.0 []) in
    followed (done hits) (found_from a c (pieces_at outs.away place.0 ++ hits) place)

-- those of each location
abbrev pub lost_pieces : PlainPlant → PlainController → PlainOuts → Marked PlainRegion
lost_pieces a c outs = each (lost_at a c outs) (numbered 0 a.locs)

-- ---- the verdict
-- the sample of a piece over n variables, in location l
abbrev pub sample_at : ℕ → ℕ → PlainPiece → Marked PlainState
sample_at n l piece = valued (λ x. record { loc = l; at = x }) (sample n piece)

-- the location that a switch leaves
abbrev pub from_of : Option PlainSwitch → ℕ
from_of None = 0
from_of (Some w) = w.from

-- by the first piece of each part
abbrev pub verdict : PlainPlant → Option (ℕ × PlainPiece) → Option (ℕ × PlainPiece) → Option (ℕ × PlainPiece) → Marked PlainVerdict
verdict a (Some f) second third = valued unsafe (sample_at (length a.vars) f.0 f.1)
verdict a None (Some f) third = valued (bad_guard f.0) (sample_at (length a.vars) (from_of (slice_get a.switches f.0)) f.1)
verdict a None None (Some f) = valued escapes (sample_at (length a.vars) f.0 f.1)
verdict a None None None = done valid

-- the marks are those of all three parts
unfoldable pub check : PlainPlant → PlainController → Marked PlainVerdict
check a c =
    and_then (unsafe_pieces a c.region) (λ bad.
    and_then (out a c.region) (λ outs.
    and_then (broken_guards a c outs.away) (λ broken.
    and_then (lost_pieces a c outs) (λ lost.
    verdict a (first_piece bad) (first_piece broken) (first_piece lost)))))
