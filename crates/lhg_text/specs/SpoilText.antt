-- How are exchanges printed?
use Rattle.std.specs.Prelude.{◌≡◌, ◌<◌, ℕ, Bool, false, if◌then◌else◌, List, [], ◌∷◌, ◌++◌, codes, decimal, length, slice_get, Option, Some, None}
use Rattle.std.specs.List.{flat_map}
use Rattle.lhg_math.specs.Signs.{is_nought}
use Rattle.lhg_plant.specs.Plant.{PlainPlant}
use Rattle.lhg_plant.specs.SpoilSteps.{PlainSpoilStep, ranked, run_on, acted, landed_at, preempted}
use Rattle.lhg_plant.specs.State.{PlainState}
use Rattle.lhg_row_text.specs.PointText.{state_text}
use Rattle.lhg_row_text.specs.PrintedLine.{line, spaced, switch_name}
use Rattle.lhg_text.specs.TraceText.{IsPlacedState, flow_line, env_line, last_line}

-- ---- conditions
-- the places of a step are there, and its points have one coordinate per variable
abbrev pub IsPlacedSpoilStep : PlainPlant → PlainSpoilStep → Type 0
IsPlacedSpoilStep a (ranked i) = Unit {0}
IsPlacedSpoilStep a (run_on t y) = length y ≡ length a.vars
IsPlacedSpoilStep a (acted e) = e < length a.switches
IsPlacedSpoilStep a (landed_at s) = IsPlacedState a s
IsPlacedSpoilStep a (preempted e s) = (e < length a.switches) × IsPlacedState a s

-- the location of the last state, where there is one, is there, and its point has one coordinate per variable
abbrev pub IsPlacedLast : PlainPlant → Option PlainState → Type 0
IsPlacedLast a None = Unit {0}
IsPlacedLast a (Some s) = IsPlacedState a s

-- exactly one of the two is given
abbrev pub IsOneGiven : {A B : Type 0} → Option A → Option B → Type 0
IsOneGiven None None = ⊥
IsOneGiven (Some x) None = Unit {0}
IsOneGiven None (Some y) = Unit {0}
IsOneGiven (Some x) (Some y) = ⊥

-- ---- lines
-- a flow of time 0
abbrev pub is_still : PlainSpoilStep → Bool
is_still (ranked i) = false
is_still (run_on t y) = is_nought t
is_still (acted e) = false
is_still (landed_at s) = false
is_still (preempted e s) = false

-- what a step tells: `round I`, `flow NUMBER POINT`, `act SWITCH`, `land LOCATION POINT` or `env SWITCH LOCATION POINT`
abbrev pub spoil_step_line : PlainPlant → PlainSpoilStep → List ℕ
spoil_step_line a (ranked i) = spaced (codes "round" ∷ decimal i ∷ [])
spoil_step_line a (run_on t y) = flow_line a.vars t y
spoil_step_line a (acted e) = spaced (codes "act" ∷ switch_name (slice_get a.switches e) ∷ [])
spoil_step_line a (landed_at s) = spaced (codes "land" ∷ state_text a s ∷ [])
spoil_step_line a (preempted e s) = env_line a e s

-- the line of a step; a flow of time 0 has none
abbrev pub spoil_step_lines : PlainPlant → PlainSpoilStep → List (List ℕ)
spoil_step_lines a step = if is_still step then [] else spoil_step_line a step ∷ []

-- the line of the unsafe state at which the exchanges end, where they do
abbrev pub unsafe_lines : PlainPlant → Option PlainState → List (List ℕ)
unsafe_lines a None = []
unsafe_lines a (Some s) = spaced (codes "unsafe" ∷ state_text a s ∷ []) ∷ []

-- the lines of exchanges: the head, the start, the steps in order, and the unsafe state and the end, or the number of the move that is
-- not legal
abbrev pub spoil_lines : PlainPlant → PlainState → List PlainSpoilStep → Option PlainState → Option ℕ → List (List ℕ)
spoil_lines a start steps last illegal =
    codes "spoil 1" ∷ spaced (codes "start" ∷ state_text a start ∷ []) ∷ (flat_map (spoil_step_lines a) steps ++ (unsafe_lines a last ++ last_line illegal ∷ []))

-- each line ends with a line feed
abbrev pub spoil_text : PlainPlant → PlainState → List PlainSpoilStep → Option PlainState → Option ℕ → List ℕ
spoil_text a start steps last illegal = flat_map line (spoil_lines a start steps last illegal)

-- the text of one step
abbrev pub spoil_step_text : PlainPlant → PlainSpoilStep → List ℕ
spoil_step_text a step = flat_map line (spoil_step_lines a step)
