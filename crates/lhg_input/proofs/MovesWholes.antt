-- The input of a plant, a state and moves: what is said of the whole when its parts are read, or one is refused.
use Rattle.std.proofs.Common.{◌≡◌, ℕ, List, []}
use Rattle.lhg_lex.specs.FirstBad.{CanStand}
use Rattle.lhg_lex.specs.Lines.{lines_of}
use Rattle.lhg_lex.specs.Reading.{Reading, IsAtEnd}
use Rattle.lhg_lex.specs.declared.stops.ReadStop.{ReadStop}
use Rattle.lhg_plant.specs.Plant.{PlainPlant}
use Rattle.lhg_plant.specs.State.{PlainState}
use Rattle.lhg_read.specs.PlantText.{IsPlant, IsPlantText, IsSomePlantText}
use Rattle.lhg_read.specs.Rest.{HasSurplus}
use Rattle.lhg_read.specs.StateText.{IsStateText, IsStateLines, IsSomeState}
use Rattle.lhg_read.specs.TextLaws.{HasOneReading}
use Rattle.lhg_read.specs.TokenText.{IsTextBy, ReadsText, HasCause}
use Rattle.lhg_spoil.specs.Moves.{PlainCtlMove}
use Rattle.lhg_spoil.specs.MovesText.{IsMoves, IsMovesText, IsSomeMovesText}
use Rattle.lhg_input.specs.BadLine.{HasBadLine}
use Rattle.lhg_input.specs.Inputs.{IsSpoilInput, IsStateInput}
use Rattle.lhg_input.specs.Then.{IsSome}
use Rattle.lhg_input.proofs.PartRefusals.{first_refused, second_refused}
use Rattle.lhg_input.proofs.Parts.{IsPart, both_parts}
use Rattle.lhg_input.proofs.Readings.{start, Stands, next_read, whole_refused, input_ends, surplus_refused}
use Rattle.lhg_input.proofs.TextParts.{moves_part, moves_follow, state_follows}
use Rattle.lhg_input.proofs.Wholes.{state_input, one_reading, cause_of, plant_fault, state_fault, state_read}

spoil_input : IsPart IsSpoilInput
spoil_input = both_parts IsStateInput (λ both. IsMovesText both.0) state_input (λ both. moves_part both.0)

-- a plant with a state has moves
moves_follow_both : (lines : List (List ℕ)) (both : PlainPlant × PlainState) → IsStateInput lines both → CanStand (IsSome (IsMovesText both.0)) []
moves_follow_both lines both h = moves_follow both.0

pub spoils_one : HasOneReading IsSpoilInput (IsSome IsSpoilInput)
spoils_one = one_reading IsSpoilInput spoil_input

module _ (bytes : List ℕ) (first : Reading) (begins : first ≡ start bytes) where
  -- what can be refused in a plant with a state is refused before moves
  before_moves : (stop : ReadStop) → HasCause (IsSome IsStateInput) (start bytes) stop → HasBadLine (IsSome IsSpoilInput) bytes stop
  before_moves stop h = whole_refused (IsSome IsSpoilInput) bytes stop (first_refused IsStateInput (λ both. IsMovesText both.0) moves_follow_both (start bytes) stop h)

  pub refused_before_moves : (stop : ReadStop) → HasCause IsSomePlantText first stop → HasBadLine (IsSome IsSpoilInput) bytes stop
  refused_before_moves stop h = before_moves stop (first_refused IsPlantText IsStateLines state_follows (start bytes) stop (plant_fault bytes first begins stop h))

  module _ (a : PlainPlant) (s : Reading) (r : ReadsText (λ tokens. IsPlant tokens a) first s) where
    pub state_refused_before_moves : (stop : ReadStop) → HasCause (IsTextBy (IsSomeState a)) s stop → HasBadLine (IsSome IsSpoilInput) bytes stop
    state_refused_before_moves stop h = before_moves stop (state_fault bytes first begins a s r stop h)

    -- ---- behind a state

    module _ (state : PlainState) (t : Reading) (q : ReadsText (λ tokens. IsStateText a tokens state) s t) where
      behind : Stands IsStateInput bytes t (a, state)
      behind = state_read bytes first begins a s r state t q

      pub moves_refused : (stop : ReadStop) → HasCause (IsSomeMovesText a) t stop → HasBadLine (IsSome IsSpoilInput) bytes stop
      moves_refused stop h =
          whole_refused (IsSome IsSpoilInput) bytes stop
          (second_refused IsStateInput (λ both. IsMovesText both.0) state_input (λ both. moves_part both.0) bytes t (a, state) behind stop (cause_of (IsMoves a) t stop h))

      -- ---- behind the moves

      module _ (moves : List PlainCtlMove) (u : Reading) (p : ReadsText (λ tokens. IsMoves a tokens moves) t u) where
        moves_read : Stands IsSpoilInput bytes u ((a, state), moves)
        moves_read = next_read IsStateInput (λ both. IsMoves both.0) bytes t u (a, state) moves behind p

        pub moves_end : IsAtEnd u → IsSpoilInput (lines_of bytes) ((a, state), moves)
        moves_end = input_ends IsSpoilInput spoil_input bytes u ((a, state), moves) moves_read

        pub behind_moves : (stop : ReadStop) → HasSurplus u stop → HasBadLine (IsSome IsSpoilInput) bytes stop
        behind_moves = surplus_refused IsSpoilInput spoil_input bytes u ((a, state), moves) moves_read
