-- To which states do a flow and a switch lead from a piece, and which lists of rows are formed for them?
use Rattle.std.specs.Prelude.{ℕ, List, [], ◌∷◌, ◌++◌, map, drop, take, length, Option, Some, None, slice_get}
use Rattle.lhg_math.specs.Number.{neg}
use Rattle.lhg_num.specs.FracArithmetic.{frac_arithmetic}
use Rattle.lhg_num.specs.Marked.{Marked, done, and_then}
use Rattle.lhg_row.specs.Row.{PlainRow}
use Rattle.lhg_row.specs.Piece.{PlainPiece}
use Rattle.lhg_motion.specs.CrossCalculus.{cross}
use Rattle.lhg_plant.specs.Plant.{PlainLocation, PlainSwitch, PlainPlant}
use Rattle.lhg_plant.specs.Invariants.{invariant_list, invariant_at}
use Rattle.lhg_plant.specs.Pre.{pre_piece}

-- ---- flows
-- the row that holds at a speed where r holds at the opposite one
abbrev pub turned : PlainRow → PlainRow
turned r = record { coefs = map neg r.coefs; strict = r.strict; bound = r.bound }

-- the points of the invariant from which one straight flow against the flow rows leads inside it into the piece; none without an invariant
abbrev pub flow_within : ℕ → PlainPiece → PlainPiece → List PlainPiece → Marked (Option PlainPiece)
flow_within n flow piece [] = done None
flow_within n flow piece (inv ∷ invs) = cross frac_arithmetic n inv inv piece (map turned flow)

-- where the location is there
abbrev pub flow_in : ℕ → PlainPiece → Option PlainLocation → Marked (Option PlainPiece)
flow_in n piece None = done None
flow_in n piece (Some l) = and_then (invariant_list n l) (flow_within n l.flow piece)

-- after a flow in location l from the piece
unfoldable pub after_flow : PlainPlant → ℕ → PlainPiece → Marked (Option PlainPiece)
after_flow a l piece = flow_in (length a.vars) piece (slice_get a.locs l)

-- ---- switches
-- the row over the new values of n variables and then the old ones
abbrev pub swapped : ℕ → PlainRow → PlainRow
swapped n r = record { coefs = drop n r.coefs ++ take n r.coefs; strict = r.strict; bound = r.bound }

-- the points of the target's invariant to which the jump leads from the piece; none without an invariant
abbrev pub switch_within : ℕ → PlainPiece → PlainPiece → List PlainPiece → Marked (Option PlainPiece)
switch_within n jump piece [] = done None
switch_within n jump piece (inv ∷ invs) = pre_piece n (map (swapped n) jump) piece inv

-- where the switch is there
abbrev pub switch_by : PlainPlant → PlainPiece → Option PlainSwitch → Marked (Option PlainPiece)
switch_by a piece None = done None
switch_by a piece (Some w) = and_then (invariant_at a w.to) (switch_within (length a.vars) w.jump piece)

-- after switch e from the piece
unfoldable pub after_switch : PlainPlant → ℕ → PlainPiece → Marked (Option PlainPiece)
after_switch a e piece = switch_by a piece (slice_get a.switches e)
