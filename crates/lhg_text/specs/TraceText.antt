-- How is the trace of a run printed?
use Rattle.std.specs.Prelude.{◌≡◌, ◌<◌, ℕ, List, [], ◌∷◌, ◌++◌, length, codes, decimal, map, slice_get, Option, Some, None}
use Rattle.std.specs.List.{flat_map}
use Rattle.lhg_math.specs.Number.{Number}
use Rattle.lhg_row.specs.Row.{PlainPoint}
use Rattle.lhg_plant.specs.Plant.{PlainPlant}
use Rattle.lhg_plant.specs.State.{PlainState}
use Rattle.lhg_plant.specs.Run.{PlainStep, started, flowed, switched, landed, env_switched}
use Rattle.lhg_row_text.specs.PointText.{point_text, state_text}
use Rattle.lhg_row_text.specs.PrintedLine.{line, spaced, switch_name}
use Rattle.lhg_row_text.specs.RowText.{number_text}

-- `flow NUMBER POINT`
abbrev pub flow_line : List (List ℕ) → Number → PlainPoint → List ℕ
flow_line vars t y = spaced (codes "flow" ∷ number_text t ∷ point_text vars y ∷ [])

-- `env SWITCH LOCATION POINT`
abbrev pub env_line : PlainPlant → ℕ → PlainState → List ℕ
env_line a e s = spaced (codes "env" ∷ switch_name (slice_get a.switches e) ∷ state_text a s ∷ [])

-- the line of a step
abbrev pub step_line : PlainPlant → PlainStep → List ℕ
step_line a (started s) = spaced (codes "start" ∷ state_text a s ∷ [])
step_line a (flowed t y) = flow_line a.vars t y
step_line a (switched e) = spaced (codes "switch" ∷ switch_name (slice_get a.switches e) ∷ [])
step_line a (landed s) = spaced (codes "land" ∷ state_text a s ∷ [])
step_line a (env_switched e s) = env_line a e s

-- the last line: the end, or the number of the illegal entry
abbrev pub last_line : Option ℕ → List ℕ
last_line None = codes "end"
last_line (Some k) = spaced (codes "illegal" ∷ decimal k ∷ [])

-- the lines of a trace: the head, one line for each step, and the last line
abbrev pub trace_lines : PlainPlant → List PlainStep → Option ℕ → List (List ℕ)
trace_lines a steps illegal = codes "trace 1" ∷ (map (step_line a) steps ++ last_line illegal ∷ [])

-- each line ends with a line feed
abbrev pub trace_text : PlainPlant → List PlainStep → Option ℕ → List ℕ
trace_text a steps illegal = flat_map line (trace_lines a steps illegal)

-- the location of the state is there, and its point has one coordinate per variable
pub record IsPlacedState (a : PlainPlant) (s : PlainState) : Type 0 where
  pub loc : s.loc < length a.locs
  pub fits : length s.at ≡ length a.vars

-- the places of a step are there, and its points have one coordinate per variable
abbrev pub IsPlacedStep : PlainPlant → PlainStep → Type 0
IsPlacedStep a (started s) = IsPlacedState a s
IsPlacedStep a (flowed t y) = length y ≡ length a.vars
IsPlacedStep a (switched e) = e < length a.switches
IsPlacedStep a (landed s) = IsPlacedState a s
IsPlacedStep a (env_switched e s) = (e < length a.switches) × IsPlacedState a s
