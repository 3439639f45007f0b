-- Which lines are the moves of a controller, and which moves do they say?
use Rattle.std.specs.Prelude.{ℕ, nat_le, if◌then◌else◌, List, [], ◌∷◌, Option, Some, None, codes}
use Rattle.std.specs.Option.{option_and_then, option_map}
use Rattle.lhg_row.specs.Row.{PlainPoint}
use Rattle.lhg_lex.specs.LineTokens.{Spot}
use Rattle.lhg_lex.specs.PlainToken.{PlainToken}
use Rattle.lhg_plant.specs.Plant.{PlainPlant}
use Rattle.lhg_read.specs.Listed.{ListLine, item, end, alone, IsListed, IsSomeListed}
use Rattle.lhg_read.specs.Numbered.{counted_in, sizes_in}
use Rattle.lhg_read.specs.PlantText.{said_in}
use Rattle.lhg_read.specs.PointText.{number_in, point_of}
use Rattle.lhg_read.specs.Signs.{is_word}
use Rattle.lhg_read.specs.SwitchName.{is_controllable, switch_in}
use Rattle.lhg_read.specs.TokenText.{IsTextBy}
use Rattle.lhg_spoil.specs.Moves.{PlainCtlMove, waits, acts}

-- ---- the lines

-- how large the number of a flow may be: it has 9 digits at most
abbrev pub most_flow : ℕ
most_flow = 999999999

-- a number that counts from 1
abbrev pub from_one : ℕ → Option ℕ
from_one k = if nat_le 1 k then Some k else None

-- the number of a flow that a token of this size is: 1 to 9 digits, of which the first is not 0
abbrev pub flow_in : PlainToken → ℕ → Option ℕ
flow_in token size = option_and_then from_one (counted_in most_flow token size)

-- a point, or nothing where no token stands there
abbrev pub named_result : List (List ℕ) → List PlainToken → Option (Option PlainPoint)
named_result vars [] = Some None
named_result vars (first ∷ tokens) = option_map (λ y. Some y) (point_of vars (first ∷ tokens))

-- `K Q SWITCH` or `K Q SWITCH POINT` for a controllable switch, where the tokens have these sizes
abbrev pub act_of : PlainPlant → List PlainToken → List ℕ → Option PlainCtlMove
act_of p (flow ∷ place ∷ switch ∷ result) (size ∷ sizes) =
    option_and_then (λ k. option_and_then (λ q. option_and_then (λ e. option_map (λ to. acts k q e to) (named_result p.vars result)) (switch_in is_controllable p switch)) (number_in place)) (flow_in flow size)
act_of p _ _ = None

-- what a line with this first token says, where the further ones have these sizes
abbrev pub move_by : PlainPlant → PlainToken → List PlainToken → List ℕ → Option (ListLine PlainCtlMove)
move_by p first tokens sizes =
    if is_word (codes "wait") first then alone (item waits) tokens else
    (if is_word (codes "act") first then option_map (λ m. item m) (act_of p tokens sizes) else
    (if is_word (codes "end") first then alone end tokens else None))

-- the line `wait`, `act K Q SWITCH`, `act K Q SWITCH POINT`, or `end`, where its tokens have these sizes; a point gives all variables
-- of the plant
abbrev pub move_line : PlainPlant → List PlainToken → List ℕ → Option (ListLine PlainCtlMove)
move_line p (first ∷ tokens) (size ∷ sizes) = move_by p first tokens sizes
move_line p _ _ = None

-- the same of the tokens of a line
abbrev pub move_in : PlainPlant → List Spot → Option (ListLine PlainCtlMove)
move_in p line = move_line p (said_in line) (sizes_in line)

-- ---- the text

-- lines with these tokens are these moves, one on each line, and then the end
abbrev pub IsMoves : PlainPlant → List (List Spot) → List PlainCtlMove → Type 0
IsMoves p lines moves = IsListed PlainCtlMove (move_in p) lines moves

-- the lines of a text are moves
abbrev pub IsMovesText : PlainPlant → List (List ℕ) → List PlainCtlMove → Type 0
IsMovesText p lines moves = IsTextBy (λ tokens. IsMoves p tokens moves) lines

-- the tokens of lines are some moves
abbrev pub IsSomeMoves : PlainPlant → List (List Spot) → Type 0
IsSomeMoves p tokens = IsSomeListed PlainCtlMove (move_in p) tokens

-- the lines are the text of some moves
abbrev pub IsSomeMovesText : PlainPlant → List (List ℕ) → Type 0
IsSomeMovesText p lines = IsTextBy (IsSomeMoves p) lines
