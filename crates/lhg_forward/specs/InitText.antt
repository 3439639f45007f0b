-- Which lines say the first states of a plant, and which ones?
use Rattle.std.specs.Prelude.{ℕ, if◌then◌else◌, List, [], ◌∷◌, Option, Some, None, codes}
use Rattle.std.specs.Option.{option_map}
use Rattle.lhg_lex.specs.LineTokens.{Spot}
use Rattle.lhg_lex.specs.PlainToken.{PlainToken}
use Rattle.lhg_row.specs.Piece.{PlainPiece}
use Rattle.lhg_plant.specs.Plant.{PlainPlant}
use Rattle.lhg_read.specs.Listed.{ListLine, item, end, alone, IsListed, IsSomeListed}
use Rattle.lhg_read.specs.PlantText.{said_in}
use Rattle.lhg_read.specs.Signs.{is_word}
use Rattle.lhg_read.specs.StateText.{location_in}
use Rattle.lhg_read.specs.TokenText.{IsTextBy}
use Rattle.lhg_ctl.specs.ControllerLine.{placed_rows}

-- ---- the lines
-- what a line with this first token says: rows with the place of their location, or the end
abbrev pub init_by : PlainPlant → PlainToken → List PlainToken → Option (ListLine (ℕ × PlainPiece))
init_by p first tokens =
    if is_word (codes "init") first then option_map (λ x. item x) (placed_rows p (location_in p) tokens) else
    (if is_word (codes "end") first then alone end tokens else None)

-- the line `init LOCATION ROWS`, or `end`
abbrev pub init_line : PlainPlant → List PlainToken → Option (ListLine (ℕ × PlainPiece))
init_line p [] = None
init_line p (first ∷ tokens) = init_by p first tokens

-- the same of the tokens of a line
abbrev pub init_in : PlainPlant → List Spot → Option (ListLine (ℕ × PlainPiece))
init_in p line = init_line p (said_in line)

-- ---- the text
-- lines with these tokens say these rows, one list on each line, and then the end
abbrev pub IsInit : PlainPlant → List (List Spot) → List (ℕ × PlainPiece) → Type 0
IsInit p lines ps = IsListed (ℕ × PlainPiece) (init_in p) lines ps

-- the lines of a text say first states
abbrev pub IsInitText : PlainPlant → List (List ℕ) → List (ℕ × PlainPiece) → Type 0
IsInitText p lines ps = IsTextBy (λ tokens. IsInit p tokens ps) lines

-- the tokens of lines say some first states
abbrev pub IsSomeInit : PlainPlant → List (List Spot) → Type 0
IsSomeInit p tokens = IsSomeListed (ℕ × PlainPiece) (init_in p) tokens

-- the lines are the text of some first states
abbrev pub IsSomeInitText : PlainPlant → List (List ℕ) → Type 0
IsSomeInitText p lines = IsTextBy (IsSomeInit p) lines
