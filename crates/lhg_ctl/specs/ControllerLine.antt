-- What does a line of a controller say, behind its head?
use Rattle.std.specs.Prelude.{ℕ, if◌then◌else◌, List, [], ◌∷◌, Option, Some, None, codes}
use Rattle.std.specs.Option.{option_and_then, option_map}
use Rattle.lhg_row.specs.Piece.{PlainPiece}
use Rattle.lhg_lex.specs.PlainToken.{PlainToken}
use Rattle.lhg_plant.specs.Plant.{PlainPlant}
use Rattle.lhg_read.specs.Listed.{alone}
use Rattle.lhg_read.specs.Names.{name_of}
use Rattle.lhg_read.specs.Rows.{rows_of}
use Rattle.lhg_read.specs.Signs.{is_word}
use Rattle.lhg_read.specs.StateText.{location_in}
use Rattle.lhg_read.specs.declared.forms.Form.TheVariants.{Plain}
use Rattle.lhg_read.specs.Numbered.{numbered}
use Rattle.lhg_read.specs.SwitchName.{is_controllable, switch_in}
use Rattle.lhg_ctl.specs.declared.versions.Version.{Version}
use Rattle.lhg_ctl.specs.declared.versions.Version.TheVariants.{First, Second}

-- the number of rounds, a piece with the place of its location, a guard with its name, where it has one, and the place of its switch, or
-- the end
pub data ControllerLine : Type 0 where
  rounds : ℕ → ControllerLine
  piece : ℕ × PlainPiece → ControllerLine
  guard : Option (List ℕ) → ℕ × PlainPiece → ControllerLine
  end : ControllerLine

-- how large the number of rounds may be
abbrev pub most_rounds : ℕ
most_rounds = 1000

-- NAME ROWS, where the name has a place
abbrev pub placed_rows : PlainPlant → (PlainToken → Option ℕ) → List PlainToken → Option (ℕ × PlainPiece)
placed_rows p place [] = None
placed_rows p place (name ∷ rows) = option_and_then (λ k. option_map (λ r. (k, r)) (rows_of Plain p.vars rows)) (place name)

-- SWITCH ROWS of a guard
abbrev pub guard_of : PlainPlant → Option (List ℕ) → List PlainToken → Option ControllerLine
guard_of p name tokens = option_map (λ g. guard name g) (placed_rows p (switch_in is_controllable p) tokens)

-- SWITCH NAME ROWS of a guard
abbrev pub named_guard : PlainPlant → List PlainToken → Option ControllerLine
named_guard p [] = None
named_guard p (switch ∷ []) = None
named_guard p (switch ∷ name ∷ rows) = option_and_then (λ w. guard_of p (Some w) (switch ∷ rows)) (name_of name)

-- what stands behind `guard`: in version 2 each guard has a name
abbrev pub guard_by : Version → PlainPlant → List PlainToken → Option ControllerLine
guard_by First p tokens = guard_of p None tokens
guard_by Second p tokens = named_guard p tokens

-- what a line with this first token says, but for `rounds R`
abbrev pub controller_by : Version → PlainPlant → PlainToken → List PlainToken → Option ControllerLine
controller_by v p first tokens =
    if is_word (codes "piece") first then option_map (λ x. piece x) (placed_rows p (location_in p) tokens) else
    (if is_word (codes "guard") first then guard_by v p tokens else
    (if is_word (codes "end") first then alone end tokens else None))

-- the line `rounds R`, where its tokens have these sizes
abbrev pub rounds_line : List PlainToken → List ℕ → Option ControllerLine
rounds_line tokens sizes = option_map (λ n. rounds n) (numbered (codes "rounds") most_rounds tokens sizes)

-- the line `rounds R`, `piece LOCATION ROWS`, `guard SWITCH ROWS` or `guard SWITCH NAME ROWS` for a controllable switch, or `end`
unfoldable pub controller_line : Version → PlainPlant → List PlainToken → List ℕ → Option ControllerLine
controller_line v p [] sizes = None
controller_line v p (first ∷ tokens) sizes = if is_word (codes "rounds") first then rounds_line (first ∷ tokens) sizes else controller_by v p first tokens
