-- How is an escape printed?
use Rattle.std.specs.Prelude.{◌≡◌, ◌<◌, ℕ, List, [], ◌∷◌, ◌++◌, codes, decimal, length, map, Option, Some, None}
use Rattle.std.specs.List.{flat_map}
use Rattle.std.specs.Option.{option_map}
use Rattle.lhg_motion.specs.Play.{PlainMove}
use Rattle.lhg_plant.specs.declared.states.State.{State}
use Rattle.lhg_plant.specs.Plant.{PlainPlant}
use Rattle.lhg_plant.specs.State.{PlainState}
use Rattle.lhg_plant.specs.Views.{plain_state}
use Rattle.lhg_row_text.specs.PrintedLine.{line, spaced}
use Rattle.lhg_text.specs.TraceText.{IsPlacedState, flow_line, env_line}

-- a last switch with its result as plain data, where there is one
abbrev pub plain_exit : Option (ℕ × State) → Option (ℕ × PlainState)
plain_exit last = option_map (λ l. (l.0, plain_state l.1)) last

-- ---- conditions
-- the point has one coordinate per variable
abbrev pub IsFittingMove : PlainPlant → PlainMove → Type 0
IsFittingMove a m = length m.to ≡ length a.vars

-- the switch and the location of its result are there, and the result has one coordinate per variable
abbrev pub IsPlacedExit : PlainPlant → Option (ℕ × PlainState) → Type 0
IsPlacedExit a None = Unit {0}
IsPlacedExit a (Some last) = (last.0 < length a.switches) × IsPlacedState a last.1

-- ---- lines
-- `flow NUMBER POINT`
abbrev pub move_line : List (List ℕ) → PlainMove → List ℕ
move_line vars m = flow_line vars m.time m.to

-- the line `env SWITCH LOCATION POINT` of a last switch, where there is one
abbrev pub exit_lines : PlainPlant → Option (ℕ × PlainState) → List (List ℕ)
exit_lines a None = []
exit_lines a (Some last) = env_line a last.0 last.1 ∷ []

-- the lines of an escape: `round I`, the flows in order, the last switch, and the end
abbrev pub escape_lines : PlainPlant → ℕ → List PlainMove → Option (ℕ × PlainState) → List (List ℕ)
escape_lines a round moves last = spaced (codes "round" ∷ decimal round ∷ []) ∷ (map (move_line a.vars) moves ++ (exit_lines a last ++ codes "end" ∷ []))

-- each line ends with a line feed
abbrev pub escape_text : PlainPlant → ℕ → List PlainMove → Option (ℕ × PlainState) → List ℕ
escape_text a round moves last = flat_map line (escape_lines a round moves last)
