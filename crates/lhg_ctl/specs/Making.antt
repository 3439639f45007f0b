-- Which pieces and guards does a controller as it is written give?
use Rattle.std.specs.Prelude.{ℕ, zero, List, [], ◌∷◌, ◌++◌, length, replicate, set, get_or, slice_get, Option, Some, None}
use Rattle.lhg_num.specs.FracArithmetic.{frac_arithmetic}
use Rattle.lhg_num.specs.Marked.{Marked, done, and_then, valued, walk}
use Rattle.lhg_row.specs.Lists.{counted_pieces}
use Rattle.lhg_row.specs.Piece.{PlainPiece}
use Rattle.lhg_row.specs.Pieces.{make}
use Rattle.lhg_plant.specs.Controller.{PlainController}
use Rattle.lhg_plant.specs.Plant.{PlainLocation, PlainSwitch, PlainPlant}
use Rattle.lhg_ctl.specs.Draft.{PlainDraft}

-- the piece, where there is one, at the end of the list at a place, which is counted
abbrev pub put : List (List PlainPiece) → ℕ → Option PlainPiece → Marked (List (List PlainPiece))
put lists k None = done lists
put lists k (Some p) = valued (λ ps. set lists k ps) (counted_pieces (get_or lists k [] ++ p ∷ []))

-- the rows of the invariant of a location, where it is there
abbrev pub inv_in : Option PlainLocation → PlainPiece
inv_in None = []
inv_in (Some l) = l.inv

abbrev pub inv_at : PlainPlant → ℕ → PlainPiece
inv_at a l = inv_in (slice_get a.locs l)

-- the location that a switch leaves, where it is there
abbrev pub source_in : Option PlainSwitch → ℕ
source_in None = zero
source_in (Some w) = w.from

abbrev pub source_at : PlainPlant → ℕ → ℕ
source_at a e = source_in (slice_get a.switches e)

-- make of an invariant's rows followed by a line's rows; nothing is formed where the invariant has no piece
abbrev pub made_within : ℕ → PlainPiece → PlainPiece → Option PlainPiece → Marked (Option PlainPiece)
made_within n inv rows None = done None
made_within n inv rows (Some piece) = make frac_arithmetic n (inv ++ rows)

-- the same behind the piece of the invariant, which is made first
abbrev pub made_in : ℕ → PlainPiece → PlainPiece → Marked (Option PlainPiece)
made_in n inv rows = and_then (make frac_arithmetic n inv) (made_within n inv rows)

-- a line of a location more, where there is a piece
abbrev pub line_at : PlainPlant → ℕ → List (List PlainPiece) → ℕ × PlainPiece → Marked (List (List PlainPiece))
line_at a l lists p = and_then (made_in (length a.vars) (inv_at a l) p.1) (λ o. put lists p.0 o)

-- the same where the line's place says the location
abbrev pub line_made : PlainPlant → (ℕ → ℕ) → List (List PlainPiece) → ℕ × PlainPiece → Marked (List (List PlainPiece))
line_made a loc lists p = line_at a (loc p.0) lists p

-- the lines in order, from so many empty lists on
abbrev pub all_made : PlainPlant → (ℕ → ℕ) → ℕ → List (ℕ × PlainPiece) → Marked (List (List PlainPiece))
all_made a loc count ps = walk (line_made a loc) (replicate count []) ps

-- the pieces line by line, and then the guards
unfoldable pub controller_of : PlainPlant → PlainDraft → Marked PlainController
controller_of a d =
    and_then (all_made a (λ l. l) (length a.locs) d.pieces) (λ region.
    valued (λ guards. record { region = region; guards = guards }) (all_made a (source_at a) (length a.switches) d.guards))
