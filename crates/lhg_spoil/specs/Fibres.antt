-- Which results of a switch lie outside a round, which of them is taken, and which lists are formed to find it?
use Rattle.std.specs.Prelude.{ℕ, cond, not, ◌&&◌, List, [], ◌++◌, filter, length, nat_eq, nat_lt, Option, Some, None, slice_get}
use Rattle.lhg_num.specs.FracArithmetic.{frac_arithmetic}
use Rattle.lhg_num.specs.Marked.{Marked, done, and_then, valued}
use Rattle.lhg_row.specs.Row.{PlainPoint}
use Rattle.lhg_row.specs.Piece.{PlainPiece}
use Rattle.lhg_row.specs.Lists.{minus}
use Rattle.lhg_plant.specs.Plant.{PlainLocation, PlainPlant, PlainSwitch}
use Rattle.lhg_plant.specs.State.{PlainState}
use Rattle.lhg_plant.specs.Invariants.{invariant_at}
use Rattle.lhg_plant.specs.SafeRegion.{safe_list}
use Rattle.lhg_plant.specs.Pick.{first_result}
use Rattle.lhg_plant.specs.Loss.{PlainLoss}
use Rattle.lhg_loss.specs.Records.{pieces_lost}

-- ---- outside a round
-- the safe pieces of a location that may not be there
abbrev pub safe_of : ℕ → Option PlainLocation → Marked (List PlainPiece)
safe_of n None = done []
safe_of n (Some l) = safe_list n l

-- those of one location of a plant
abbrev pub safe_at : PlainPlant → ℕ → Marked (List PlainPiece)
safe_at a l = safe_of (length a.vars) (slice_get a.locs l)

-- the unsafe states of a location: what its safe pieces leave of its invariant
unfoldable pub unsafe_at : PlainPlant → ℕ → Marked (List PlainPiece)
unsafe_at a l = and_then (invariant_at a l) (λ inv. and_then (safe_at a l) (minus frac_arithmetic (length a.vars) inv))

-- the records of a location and of a round up to j
abbrev pub losses_past : ℕ → ℕ → List PlainLoss → List PlainLoss
losses_past l j losses = filter (λ r. nat_eq r.loc l && not (nat_lt j r.round)) losses

-- the states of a location that lie outside round j: its unsafe states, then those of its records of a round up to j
abbrev pub past_at : PlainPlant → List PlainLoss → ℕ → ℕ → Marked (List PlainPiece)
past_at a losses j l = valued (λ ps. ps ++ pieces_lost (losses_past l j losses)) (unsafe_at a l)

-- ---- fibres
-- the result of the fibres of a switch that leaves the location of the state, past round j: the sample of the first of them
abbrev pub fibre_by : PlainPlant → List PlainLoss → ℕ → PlainState → PlainSwitch → Marked (Option PlainPoint)
fibre_by a losses j s w = and_then (past_at a losses j w.to) (first_result (length a.vars) s.at w.jump)

-- the same of a switch that may not be there, or leave another location, and then has no fibre
abbrev pub fibre_of : PlainPlant → List PlainLoss → ℕ → PlainState → Option PlainSwitch → Marked (Option PlainPoint)
fibre_of a losses j s None = done None
fibre_of a losses j s (Some w) = cond (nat_eq w.from s.loc) (fibre_by a losses j s w) (done None)

-- the same of switch e of the plant
unfoldable pub fibre : PlainPlant → List PlainLoss → ℕ → ℕ → PlainState → Marked (Option PlainPoint)
fibre a losses j e s = fibre_of a losses j s (slice_get a.switches e)
