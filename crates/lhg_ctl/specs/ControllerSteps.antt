-- What does one line of a controller change? The grammar of controllers once more, line by line.
use Rattle.std.specs.Prelude.{ℕ, ◌+◌, length, Bool, true, false, not, ◌&&◌, nat_lt, if◌then◌else◌, List, [], ◌∷◌, ◌++◌, Option, Some, None}
use Rattle.std.specs.Option.{option_and_then}
use Rattle.lhg_row.specs.Lists.{piece_limit}
use Rattle.lhg_row.specs.Piece.{PlainPiece}
use Rattle.lhg_lex.specs.PlainToken.{PlainToken}
use Rattle.lhg_plant.specs.Differ.{is_among}
use Rattle.lhg_plant.specs.Plant.{PlainPlant}
use Rattle.lhg_read.specs.PlantSteps.{is_nil}
use Rattle.lhg_ctl.specs.ControllerGrammar.{count_at}
use Rattle.lhg_ctl.specs.ControllerLine.{ControllerLine, rounds, piece, guard, end, controller_line}
use Rattle.lhg_ctl.specs.Draft.{PlainDraft, guard_name}
use Rattle.lhg_ctl.specs.declared.versions.Version.{Version}
use Rattle.lhg_ctl.specs.declared.versions.Version.TheVariants.{First, Second}

-- what is read so far, of which version it is, whether its number of rounds is known, and whether the text has ended
pub record PlainOpen : Type 0 where
  pub version : Version
  pub begun : Bool
  pub ended : Bool
  pub draft : PlainDraft

abbrev pub is_first : Version → Bool
is_first First = true
is_first Second = false

-- nothing is read behind the head; in version 1 no number of rounds comes
abbrev pub open_with : Version → PlainOpen
open_with v = record { version = v; begun = is_first v; ended = false; draft = record { pieces = []; guards = []; rounds = 0; names = [] } }

-- a guard has a name of its own in version 2 alone
abbrev pub fits : Version → Option (List ℕ) → Bool
fits First None = true
fits First (Some name) = false
fits Second None = false
fits Second (Some name) = true

-- the name, where there is one, is not among these
abbrev pub is_new : Option (List ℕ) → List (List ℕ) → Bool
is_new None names = true
is_new (Some name) names = not (is_among name names)

-- a piece may come: no guard has come, and there are not too many of its location
abbrev pub may_piece : PlainOpen → ℕ → Bool
may_piece o k = o.begun && (is_nil o.draft.guards && nat_lt (count_at k o.draft.pieces) piece_limit)

-- a guard may come: there are not too many of its switch
abbrev pub may_guard : PlainOpen → ℕ → Bool
may_guard o k = o.begun && nat_lt (count_at k o.draft.guards) piece_limit

-- the name of the next guard
abbrev pub next_name : PlainDraft → Option (List ℕ) → List ℕ
next_name d None = guard_name (length d.guards + 1)
next_name d (Some name) = name

abbrev pub with_rounds : ℕ → PlainDraft → PlainDraft
with_rounds n d = record d { rounds = n }

abbrev pub with_piece : ℕ × PlainPiece → PlainDraft → PlainDraft
with_piece p d = record d { pieces = d.pieces ++ p ∷ [] }

abbrev pub with_guard : List ℕ → ℕ × PlainPiece → PlainDraft → PlainDraft
with_guard name g d = record d { guards = d.guards ++ g ∷ []; names = d.names ++ name ∷ [] }

-- a guard more, by its name, where it may come
abbrev pub pushed : PlainOpen → List ℕ → ℕ × PlainPiece → Option PlainOpen
pushed o name g = if may_guard o g.0 then Some (record o { draft = with_guard name g o.draft }) else None

-- what a line changes, where it can stand
abbrev pub step : PlainOpen → ControllerLine → Option PlainOpen
step o (rounds n) = if o.begun then None else Some (record o { begun = true; draft = with_rounds n o.draft })
step o (piece p) = if may_piece o p.0 then Some (record o { draft = with_piece p o.draft }) else None
step o (guard name g) = if fits o.version name && is_new name o.draft.names then pushed o (next_name o.draft name) g else None
step o end = if o.begun then Some (record o { ended = true }) else None

-- what the tokens of a line, of these sizes, change
abbrev pub taken : PlainPlant → PlainOpen → List PlainToken → List ℕ → Option PlainOpen
taken p o tokens sizes = option_and_then (step o) (controller_line o.version p tokens sizes)
