-- What does one line of a plant change? The grammar of plants once more, line by line.
use Rattle.std.specs.Prelude.{ℕ, length, Bool, true, false, not, ◌&&◌, nat_lt, if◌then◌else◌, List, [], ◌∷◌, ◌++◌, map, Option, Some, None}
use Rattle.std.specs.Option.{option_and_then, option_map}
use Rattle.lhg_row.specs.Piece.{PlainPiece}
use Rattle.lhg_lex.specs.LineTokens.{Spot}
use Rattle.lhg_lex.specs.PlainToken.{PlainToken}
use Rattle.lhg_plant.specs.Differ.{is_among}
use Rattle.lhg_plant.specs.Limits.{most_safe_lines, most_locations, most_switches}
use Rattle.lhg_plant.specs.Plant.{PlainLocation, PlainSwitch, PlainPlant}
use Rattle.lhg_plant.specs.Still.{still_rows}
use Rattle.lhg_read.specs.PlantLine.{inv, flow, safe, PlantLine, loc, block, switch, end, line_of}
use Rattle.lhg_read.specs.PlantText.{said_in, switch_at}

-- what is read so far: the locations, of which the last one is open; whether it has an `inv` and a `flow` line; the switches;
-- and whether the text has ended
pub record PlainDraft : Type 0 where
  pub locs : List PlainLocation
  pub has_inv : Bool
  pub has_flow : Bool
  pub switches : List PlainSwitch
  pub ended : Bool

-- nothing is read
abbrev pub empty_draft : PlainDraft
empty_draft = record { locs = []; has_inv = false; has_flow = false; switches = []; ended = false }

abbrev pub is_nil : {A : Type 0} → List A → Bool
is_nil [] = true
is_nil (x ∷ xs) = false

-- the last member changed
abbrev pub with_last : {A : Type 0} → (A → A) → List A → List A
with_last f [] = []
with_last f (x ∷ []) = f x ∷ []
with_last f (x ∷ y ∷ xs) = x ∷ with_last f (y ∷ xs)

-- how many safe lines the last location has
abbrev pub safe_lines : List PlainLocation → ℕ
safe_lines [] = 0
safe_lines (x ∷ []) = length x.safe
safe_lines (x ∷ y ∷ xs) = safe_lines (y ∷ xs)

-- the names of locations and switches
abbrev pub loc_names : List PlainLocation → List (List ℕ)
loc_names locs = map (λ l. l.name) locs

abbrev pub switch_names : List PlainSwitch → List (List ℕ)
switch_names switches = map (λ s. s.name) switches

-- a location goes on: some has begun, and no switch has come
abbrev pub is_open : PlainDraft → Bool
is_open d = not (is_nil d.locs) && is_nil d.switches

-- a location that has begun
abbrev pub begun : ℕ → List ℕ → PlainLocation
begun n name = record { name = name; inv = []; flow = still_rows n; safe = [] }

abbrev pub with_inv : PlainPiece → PlainLocation → PlainLocation
with_inv rows l = record l { inv = rows }

abbrev pub with_flow : PlainPiece → PlainLocation → PlainLocation
with_flow rows l = record l { flow = rows }

abbrev pub with_safe : PlainPiece → PlainLocation → PlainLocation
with_safe rows l = record l { safe = l.safe ++ rows ∷ [] }

-- a location may begin: no switch has come, there are not too many, and its name is new
abbrev pub may_begin : PlainDraft → List ℕ → Bool
may_begin d name = is_nil d.switches && (nat_lt (length d.locs) most_locations && not (is_among name (loc_names d.locs)))

-- a switch may come: some location has begun, there are not too many switches, and its name is new
abbrev pub may_switch : PlainDraft → List ℕ → Bool
may_switch d name = not (is_nil d.locs) && (nat_lt (length d.switches) most_switches && not (is_among name (switch_names d.switches)))

-- what a line changes, where it can stand
abbrev pub step : ℕ → PlainDraft → PlantLine → Option PlainDraft
step n d (loc name) = if may_begin d name then Some (record d { locs = d.locs ++ begun n name ∷ []; has_inv = false; has_flow = false }) else None
step n d (block (inv rows)) = if is_open d && not d.has_inv then Some (record d { locs = with_last (with_inv rows) d.locs; has_inv = true }) else None
step n d (block (flow rows)) = if is_open d && not d.has_flow then Some (record d { locs = with_last (with_flow rows) d.locs; has_flow = true }) else None
step n d (block (safe rows)) = if is_open d && nat_lt (safe_lines d.locs) most_safe_lines then Some (record d { locs = with_last (with_safe rows) d.locs }) else None
step n d (switch s) = if may_switch d s.name then option_map (λ w. record d { switches = d.switches ++ w ∷ [] }) (switch_at (loc_names d.locs) s) else None
step n d end = if is_nil d.locs then None else Some (record d { ended = true })

-- what lines change, one after the other; nothing comes behind the end
abbrev pub steps : ℕ → PlainDraft → List PlantLine → Option PlainDraft
steps n d [] = Some d
steps n d (line ∷ lines) = if d.ended then None else option_and_then (λ e. steps n e lines) (step n d line)

-- what the tokens of a line change
abbrev pub taken : List (List ℕ) → PlainDraft → List PlainToken → Option PlainDraft
taken vars d tokens = option_and_then (step (length vars) d) (line_of vars tokens)

-- what a line changes, and whether the text has ended
abbrev pub taken_at : List (List ℕ) → PlainDraft → List Spot → Option PlainDraft
taken_at vars d line = taken vars d (said_in line)

abbrev pub has_ended : PlainDraft → Bool
has_ended d = d.ended

-- the plant that is read
abbrev pub plant_with : List (List ℕ) → PlainDraft → PlainPlant
plant_with vars d = record { vars = vars; locs = d.locs; switches = d.switches }
