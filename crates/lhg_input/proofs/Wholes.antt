-- The inputs of the commands: what is said of a whole input when its parts are read, or one is refused.
use Rattle.std.proofs.Common.{◌≡◌, ℕ, List, [], subst}
use Rattle.lhg_lex.specs.FirstBad.{CanStand}
use Rattle.lhg_lex.specs.LineTokens.{Spot}
use Rattle.lhg_lex.specs.Lines.{lines_of}
use Rattle.lhg_lex.specs.Reading.{Reading, IsAtEnd}
use Rattle.lhg_lex.specs.declared.stops.ReadStop.{ReadStop}
use Rattle.lhg_lex.proofs.FirstBadProofs.{none_bad, one_bad}
use Rattle.lhg_plant.specs.Plant.{PlainPlant}
use Rattle.lhg_plant.specs.State.{PlainState}
use Rattle.lhg_read.specs.PlantText.{IsPlant, IsPlantText, IsSomePlantText}
use Rattle.lhg_read.specs.Rest.{HasSurplus}
use Rattle.lhg_read.specs.StateText.{IsStateText, IsStateLines, IsSomeState}
use Rattle.lhg_read.specs.TextLaws.{HasOneReading}
use Rattle.lhg_read.specs.TokenText.{IsTextBy, ReadsText, HasCause}
use Rattle.lhg_ctl.specs.ControllerGrammar.{IsController, IsControllerText, IsSomeControllerText}
use Rattle.lhg_ctl.specs.Draft.{PlainDraft}
use Rattle.lhg_ctl.specs.LogText.{PlainLog, IsLog, IsLogText, IsSomeLogText}
use Rattle.lhg_input.specs.BadLine.{HasBadLine}
use Rattle.lhg_input.specs.Inputs.{IsControllerInput, IsLogInput, IsStateInput}
use Rattle.lhg_input.specs.Then.{IsSome}
use Rattle.lhg_input.proofs.PartRefusals.{first_refused, second_refused}
use Rattle.lhg_input.proofs.Parts.{IsPart, both_parts}
use Rattle.lhg_input.proofs.Readings.{start, Stands, first_read, next_read, same_cause, some_lines, some_tokens, whole_refused, input_ends, surplus_refused}
use Rattle.lhg_input.proofs.TextParts.{plant_part, controller_part, controller_follows, log_part, log_follows, state_part, state_follows}

-- ---- the parts and the wholes

controller_input : IsPart IsControllerInput
controller_input = both_parts IsPlantText IsControllerText plant_part controller_part

log_input : IsPart IsLogInput
log_input = both_parts IsControllerInput (λ both. IsLogText both.0) controller_input (λ both. log_part both.0)

pub state_input : IsPart IsStateInput
state_input = both_parts IsPlantText IsStateLines plant_part state_part

-- a plant with a controller has a log
log_follows_both : (lines : List (List ℕ)) (both : PlainPlant × PlainDraft) → IsControllerInput lines both → CanStand (IsSome (IsLogText both.0)) []
log_follows_both lines both h = log_follows h.front both.0 h.first

-- each part has one value or one first bad line
pub one_reading : {V : Type 0} (Is : List (List ℕ) → V → Type 0) → IsPart Is → HasOneReading Is (IsSome Is)
one_reading Is a = record { one_value = a.one_value; no_bad_line = none_bad (IsSome Is); one_bad_line = one_bad (IsSome Is) }

pub controllers_one : HasOneReading IsControllerInput (IsSome IsControllerInput)
controllers_one = one_reading IsControllerInput controller_input

pub logs_one : HasOneReading IsLogInput (IsSome IsLogInput)
logs_one = one_reading IsLogInput log_input

pub states_one : HasOneReading IsStateInput (IsSome IsStateInput)
states_one = one_reading IsStateInput state_input

-- what is refused of tokens with some value is refused of lines with some value
pub cause_of : {V : Type 0} (Tokens : List (List Spot) → V → Type 0) (s : Reading) (stop : ReadStop) → HasCause (IsTextBy (λ tokens. (v : V) × Tokens tokens v)) s stop → HasCause (IsSome (λ lines v. IsTextBy (λ tokens. Tokens tokens v) lines)) s stop
cause_of {V = V} Tokens = same_cause (IsTextBy (λ tokens. (v : V) × Tokens tokens v)) (IsSome (λ lines v. IsTextBy (λ tokens. Tokens tokens v) lines)) (some_lines Tokens) (some_tokens Tokens)

-- ---- the plant

module _ (bytes : List ℕ) (first : Reading) (begins : first ≡ start bytes) where
  -- a plant that is refused, in the form of the other parts
  pub plant_fault : (stop : ReadStop) → HasCause IsSomePlantText first stop → HasCause (IsSome IsPlantText) (start bytes) stop
  plant_fault stop h = cause_of IsPlant (start bytes) stop (subst (λ s. HasCause IsSomePlantText s stop) begins h)

  pub plant_refused : (stop : ReadStop) → HasCause IsSomePlantText first stop → HasBadLine (IsSome IsPlantText) bytes stop
  plant_refused stop h = whole_refused (IsSome IsPlantText) bytes stop (plant_fault stop h)

  pub refused_before_controller : (stop : ReadStop) → HasCause IsSomePlantText first stop → HasBadLine (IsSome IsControllerInput) bytes stop
  refused_before_controller stop h = whole_refused (IsSome IsControllerInput) bytes stop (first_refused IsPlantText IsControllerText controller_follows (start bytes) stop (plant_fault stop h))

  pub refused_before_state : (stop : ReadStop) → HasCause IsSomePlantText first stop → HasBadLine (IsSome IsStateInput) bytes stop
  refused_before_state stop h = whole_refused (IsSome IsStateInput) bytes stop (first_refused IsPlantText IsStateLines state_follows (start bytes) stop (plant_fault stop h))

  -- what can be refused in a plant with a controller is refused before a log
  before_log : (stop : ReadStop) → HasCause (IsSome IsControllerInput) (start bytes) stop → HasBadLine (IsSome IsLogInput) bytes stop
  before_log stop h = whole_refused (IsSome IsLogInput) bytes stop (first_refused IsControllerInput (λ both. IsLogText both.0) log_follows_both (start bytes) stop h)

  pub refused_before_log : (stop : ReadStop) → HasCause IsSomePlantText first stop → HasBadLine (IsSome IsLogInput) bytes stop
  refused_before_log stop h = before_log stop (first_refused IsPlantText IsControllerText controller_follows (start bytes) stop (plant_fault stop h))

  -- ---- behind the plant

  module _ (a : PlainPlant) (s : Reading) (r : ReadsText (λ tokens. IsPlant tokens a) first s) where
    pub plant_read : Stands IsPlantText bytes s a
    plant_read = first_read IsPlant bytes s a (subst (λ t. ReadsText (λ tokens. IsPlant tokens a) t s) begins r)

    pub plant_ends : IsAtEnd s → IsPlantText (lines_of bytes) a
    plant_ends = input_ends IsPlantText plant_part bytes s a plant_read

    pub behind_plant : (stop : ReadStop) → HasSurplus s stop → HasBadLine (IsSome IsPlantText) bytes stop
    behind_plant = surplus_refused IsPlantText plant_part bytes s a plant_read

    controller_fault : (stop : ReadStop) → HasCause (IsSomeControllerText a) s stop → HasCause (IsSome IsControllerInput) (start bytes) stop
    controller_fault stop h = second_refused IsPlantText IsControllerText plant_part controller_part bytes s a plant_read stop (cause_of (IsController a) s stop h)

    pub controller_refused : (stop : ReadStop) → HasCause (IsSomeControllerText a) s stop → HasBadLine (IsSome IsControllerInput) bytes stop
    controller_refused stop h = whole_refused (IsSome IsControllerInput) bytes stop (controller_fault stop h)

    pub controller_refused_before_log : (stop : ReadStop) → HasCause (IsSomeControllerText a) s stop → HasBadLine (IsSome IsLogInput) bytes stop
    controller_refused_before_log stop h = before_log stop (controller_fault stop h)

    pub state_fault : (stop : ReadStop) → HasCause (IsTextBy (IsSomeState a)) s stop → HasCause (IsSome IsStateInput) (start bytes) stop
    state_fault stop h = second_refused IsPlantText IsStateLines plant_part state_part bytes s a plant_read stop (cause_of (IsStateText a) s stop h)

    pub state_refused : (stop : ReadStop) → HasCause (IsTextBy (IsSomeState a)) s stop → HasBadLine (IsSome IsStateInput) bytes stop
    state_refused stop h = whole_refused (IsSome IsStateInput) bytes stop (state_fault stop h)

    -- ---- behind a state

    module _ (state : PlainState) (t : Reading) (q : ReadsText (λ tokens. IsStateText a tokens state) s t) where
      pub state_read : Stands IsStateInput bytes t (a, state)
      state_read = next_read IsPlantText IsStateText bytes s t a state plant_read q

      pub state_ends : IsAtEnd t → IsStateInput (lines_of bytes) (a, state)
      state_ends = input_ends IsStateInput state_input bytes t (a, state) state_read

      pub behind_state : (stop : ReadStop) → HasSurplus t stop → HasBadLine (IsSome IsStateInput) bytes stop
      behind_state = surplus_refused IsStateInput state_input bytes t (a, state) state_read

    -- ---- behind a controller

    module _ (d : PlainDraft) (t : Reading) (q : ReadsText (λ tokens. IsController a tokens d) s t) where
      controller_read : Stands IsControllerInput bytes t (a, d)
      controller_read = next_read IsPlantText IsController bytes s t a d plant_read q

      pub controller_ends : IsAtEnd t → IsControllerInput (lines_of bytes) (a, d)
      controller_ends = input_ends IsControllerInput controller_input bytes t (a, d) controller_read

      pub behind_controller : (stop : ReadStop) → HasSurplus t stop → HasBadLine (IsSome IsControllerInput) bytes stop
      behind_controller = surplus_refused IsControllerInput controller_input bytes t (a, d) controller_read

      pub log_refused : (stop : ReadStop) → HasCause (IsSomeLogText a) t stop → HasBadLine (IsSome IsLogInput) bytes stop
      log_refused stop h =
          whole_refused (IsSome IsLogInput) bytes stop
          (second_refused IsControllerInput (λ both. IsLogText both.0) controller_input (λ both. log_part both.0) bytes t (a, d) controller_read stop (cause_of (IsLog a) t stop h))

      -- ---- behind a log

      module _ (log : PlainLog) (u : Reading) (p : ReadsText (λ tokens. IsLog a tokens log) t u) where
        log_read : Stands IsLogInput bytes u ((a, d), log)
        log_read = next_read IsControllerInput (λ both. IsLog both.0) bytes t u (a, d) log controller_read p

        pub log_ends : IsAtEnd u → IsLogInput (lines_of bytes) ((a, d), log)
        log_ends = input_ends IsLogInput log_input bytes u ((a, d), log) log_read

        pub behind_log : (stop : ReadStop) → HasSurplus u stop → HasBadLine (IsSome IsLogInput) bytes stop
        behind_log = surplus_refused IsLogInput log_input bytes u ((a, d), log) log_read
