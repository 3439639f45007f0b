-- Which result does the calculus choose by a switch of side `pick`?
use Rattle.std.specs.Prelude.{ℕ, List, [], ◌∷◌, ◌++◌, length, Option, Some, None, get_or, slice_get}
use Rattle.lhg_num.specs.FracArithmetic.{frac_arithmetic}
use Rattle.lhg_num.specs.Marked.{Marked, done, and_then, valued}
use Rattle.lhg_row.specs.Row.{PlainPoint}
use Rattle.lhg_row.specs.Piece.{PlainPiece}
use Rattle.lhg_row.specs.PutIn.{put_in_each}
use Rattle.lhg_row.specs.Pieces.{make}
use Rattle.lhg_row.specs.Sample.{sample}
use Rattle.lhg_plant.specs.Plant.{PlainPlant, PlainSwitch}
use Rattle.lhg_plant.specs.State.{PlainState}
use Rattle.lhg_plant.specs.Region.{PlainRegion}
use Rattle.lhg_plant.specs.Choice.{Choice}

-- the rows that the results in a piece satisfy: the jump rows with the point put in, followed by those of the piece
abbrev pub result_rows : PlainPoint → PlainPiece → PlainPiece → Marked PlainPiece
result_rows x jump piece = valued (λ rows. rows ++ piece) (put_in_each frac_arithmetic x jump)

-- the results in the piece, over n variables, where there is one
abbrev pub results_in : ℕ → PlainPoint → PlainPiece → PlainPiece → Marked (Option PlainPiece)
results_in n x jump piece = and_then (result_rows x jump piece) (make frac_arithmetic n)

-- the sample of the results where there is one, and else what the further pieces give
abbrev pub sample_or : ℕ → Marked (Option PlainPoint) → Option PlainPiece → Marked (Option PlainPoint)
sample_or n further None = further
sample_or n further (Some results) = valued Some (sample n results)

-- the sample of the results in the first piece, in order, that holds one
abbrev pub first_result : ℕ → PlainPoint → PlainPiece → List PlainPiece → Marked (Option PlainPoint)
first_result n x jump [] = done None
first_result n x jump (piece ∷ pieces) = and_then (results_in n x jump piece) (sample_or n (first_result n x jump pieces))

-- that of a switch from the point into the pieces of the region in its target
abbrev pub pick_by : PlainPlant → PlainRegion → PlainPoint → Option PlainSwitch → Marked (Option PlainPoint)
pick_by a region x None = done None
pick_by a region x (Some w) = first_result (length a.vars) x w.jump (get_or region w.to [])

-- the result that is picked by switch e at the state, where some piece of the region holds one
abbrev pub picked_result : PlainPlant → PlainRegion → ℕ → PlainState → Marked (Option PlainPoint)
picked_result a region e s = pick_by a region s.at (slice_get a.switches e)

-- this choice of results in the region
abbrev pub picks : PlainPlant → PlainRegion → Choice
picks a region e s = (picked_result a region e s).value
