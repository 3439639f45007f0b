-- Which verdicts does the check give for known controllers, by computation alone?
use Rattle.std.specs.Prelude.{◌≡◌, ℕ, ℤ, pos, negsuc, List, [], ◌∷◌, map}
use Rattle.std.proofs.Common.{refl}
use Rattle.lhg_math.specs.Gcd.{gcd}
use Rattle.lhg_math.specs.Number.{ratio_suc, ratio, add, mul, neg, sub, whole, lt, nought, unit, inverse, quot, half, mid}
use Rattle.lhg_row.specs.Piece.{PlainPiece}
use Rattle.lhg_row.specs.Trim.{trim}
use Rattle.lhg_row.specs.Eliminate.{eliminate}
use Rattle.lhg_row.specs.Pieces.{make}
use Rattle.lhg_row.specs.Lists.{minus, meet_lists}
use Rattle.lhg_row.specs.Worked.{weak, minus_one, seen}
use Rattle.lhg_row.specs.WorkedPieces.{at_most, not_below}
use Rattle.lhg_motion.specs.CrossCalculus.{cross}
use Rattle.lhg_motion.specs.ReachCalculus.{layer_of, reach}
use Rattle.lhg_plant.specs.Controller.{PlainController, IsValid}
use Rattle.lhg_plant.specs.SafeRegion.{safe_region}
use Rattle.lhg_plant.specs.Invariants.{invariants}
use Rattle.lhg_plant.specs.Pre.{pre_piece, pre_list, pre}
use Rattle.lhg_plant.specs.OutCalculus.{away, hits_at, out}
use Rattle.lhg_plant.specs.BackCalculus.{near_at, guards}
use Rattle.lhg_loss.specs.WorkedRounds.{keep, thermostat, late, doubling, picking, comfort}
use Rattle.lhg_check.specs.Check.{PlainVerdict, valid, unsafe, bad_guard, escapes, unsafe_pieces, broken_ctl, broken_pick, broken_guards, lost_at, check}

-- the kind of a verdict, its switch, and the location and point of its state
abbrev pub seen_verdict : PlainVerdict → ℕ × ℕ × ℕ × List (ℤ × ℕ)
seen_verdict valid = (0, 0, 0, [])
seen_verdict (unsafe s) = (1, 0, s.loc, map seen s.at)
seen_verdict (bad_guard e s) = (2, e, s.loc, map seen s.at)
seen_verdict (escapes s) = (3, 0, s.loc, map seen s.at)

-- a controller of the thermostat: what it keeps while heating, and where it may switch off; while cooling it keeps 18 to 22, and may switch on
abbrev pub keeping : List PlainPiece → List PlainPiece → PlainController
keeping heat off = record { region = heat ∷ (comfort ∷ []) ∷ []; guards = off ∷ (comfort ∷ []) ∷ [] }

abbrev pub checked : List PlainPiece → List PlainPiece → ℕ × ℕ × ℕ × List (ℤ × ℕ)
checked heat off = seen_verdict (check (thermostat keep) (keeping heat off)).value

-- from 18 to b, and from 10 to 22
abbrev pub up_to : ℤ → PlainPiece
up_to b = not_below (negsuc 17) ∷ at_most b ∷ []

abbrev pub from_ten : PlainPiece
from_ten = not_below (negsuc 9) ∷ at_most (pos 22) ∷ []

-- from 0 to b
abbrev pub from_zero : ℤ → PlainPiece
from_zero b = not_below (pos 0) ∷ at_most b ∷ []

-- a controller of the plant whose result it picks: it keeps 0 to 8 in run and 0 to 5 in rest, and may go to rest at these states
abbrev pub resting : List PlainPiece → PlainController
resting go = record { region = (from_zero (pos 8) ∷ []) ∷ (from_zero (pos 5) ∷ []) ∷ []; guards = go ∷ [] }

-- the jump that picks no value below 6
abbrev pub from_six : PlainPiece
from_six = weak (pos 0 ∷ minus_one ∷ []) (negsuc 5) ∷ []

-- the controller that the iteration gives is valid. Without the guard 22 of heating escapes; a region up to 23 is not safe there; a guard
-- from 10 on is not in the region; a switch that cannot be taken yet breaks its guard; the plant doubles 1, which escapes; and where
-- heating keeps less than it may switch on to, the guard of the other switch breaks. Where the controller picks the result, some result in
-- the region is enough; a guard beyond the region breaks, and so does one at a state whose results are all outside; without a guard 8 of
-- run escapes
pub record CheckRows : Type 0 where
  pub keeps : checked (comfort ∷ []) (comfort ∷ []) ≡ (0, 0, 0, [])
  pub no_guard : checked (comfort ∷ []) [] ≡ (3, 0, 0, (pos 22, 1) ∷ [])
  pub too_far : checked (up_to (pos 23) ∷ []) (comfort ∷ []) ≡ (1, 0, 0, (pos 23, 1) ∷ [])
  pub too_soon : checked (comfort ∷ []) (from_ten ∷ []) ≡ (2, 0, 0, (pos 10, 1) ∷ [])
  pub stuck : seen_verdict (check late (keeping (comfort ∷ []) (comfort ∷ []))).value ≡ (2, 0, 0, (pos 18, 1) ∷ [])
  pub leaves : seen_verdict (check doubling (record { region = (from_zero (pos 1) ∷ []) ∷ []; guards = [] ∷ [] })).value ≡ (3, 0, 0, (pos 1, 1) ∷ [])
  pub too_little : checked (up_to (pos 20) ∷ []) (up_to (pos 20) ∷ []) ≡ (2, 1, 1, (pos 22, 1) ∷ [])
  pub picks : seen_verdict (check (picking []) (resting (from_zero (pos 8) ∷ []))).value ≡ (0, 0, 0, [])
  pub picks_too_far : seen_verdict (check (picking []) (resting (from_zero (pos 10) ∷ []))).value ≡ (2, 0, 0, (pos 10, 1) ∷ [])
  pub picks_nothing : seen_verdict (check (picking from_six) (resting (from_zero (pos 8) ∷ []))).value ≡ (2, 0, 0, (pos 0, 1) ∷ [])
  pub picks_nowhere : seen_verdict (check (picking []) (resting [])).value ≡ (3, 0, 0, (pos 8, 1) ∷ [])

-- the safe region of the thermostat, with the guards that the calculus gives it
abbrev pub safe_keeping : PlainController
safe_keeping = record { region = (safe_region (thermostat keep)).value; guards = (guards (thermostat keep) (safe_region (thermostat keep)).value).value }

-- it is valid, by the law of the check
abbrev pub ThermostatValid : Type 0
ThermostatValid = IsValid (thermostat keep) safe_keeping

-- ---- by computation
pub check_rows : CheckRows
unfolding gcd ratio_suc ratio add mul neg sub whole lt nought unit inverse quot half mid trim eliminate make minus meet_lists cross layer_of reach safe_region invariants pre_piece pre_list pre away hits_at out near_at unsafe_pieces broken_ctl broken_pick broken_guards lost_at check
check_rows = record {
  keeps = refl;
  no_guard = refl;
  too_far = refl;
  too_soon = refl;
  stuck = refl;
  leaves = refl;
  too_little = refl;
  picks = refl;
  picks_too_far = refl;
  picks_nothing = refl;
  picks_nowhere = refl;
}
