-- Plants, controllers, logs, states and first states are parts of an input.
use Rattle.std.proofs.Common.{◌≡◌, ℕ, List, [], ◌∷◌, ◌++◌, sym, ap, ◌∙◌}
use Rattle.lhg_lex.specs.FirstBad.{CanStand}
use Rattle.lhg_lex.specs.LineTokens.{Spot}
use Rattle.lhg_plant.specs.Plant.{PlainPlant}
use Rattle.lhg_plant.specs.Proper.{IsProper}
use Rattle.lhg_plant.specs.State.{PlainState}
use Rattle.lhg_read.specs.OptionLaws.{joined_front}
use Rattle.lhg_read.specs.Options.{joined}
use Rattle.lhg_read.specs.PlantText.{IsPlantText}
use Rattle.lhg_read.specs.Reads.{CanGoOn}
use Rattle.lhg_read.specs.Rest.{AreBlank}
use Rattle.lhg_read.specs.StateText.{IsStateText, IsStateLines}
use Rattle.lhg_read.specs.TokenLineLaws.{token_lines-append, blank_lines}
use Rattle.lhg_read.specs.TokenText.{token_lines, IsTextBy}
use Rattle.lhg_read.proofs.LexedLines.{lines_lexed}
use Rattle.lhg_read.proofs.PlantEnds.{plant_end}
use Rattle.lhg_read.proofs.PlantProper.{plant_proper}
use Rattle.lhg_read.proofs.StateLines.{some_state}
use Rattle.lhg_read.proofs.TextEnds.{blank_end}
use Rattle.lhg_read.proofs.TextLawProofs.{plant_reading, state_reading}
use Rattle.lhg_ctl.specs.ControllerGrammar.{IsController, IsControllerText}
use Rattle.lhg_ctl.specs.LogText.{IsLog, IsLogText}
use Rattle.lhg_ctl.proofs.ControllerLawProofs.{controller_reading, controller_end}
use Rattle.lhg_ctl.proofs.ControllerMachine.{controllers}
use Rattle.lhg_ctl.proofs.LogLawProofs.{log_reading, log_end}
use Rattle.lhg_ctl.proofs.LogStart.{logs}
use Rattle.lhg_spoil.specs.MovesText.{IsMoves, IsMovesText}
use Rattle.lhg_spoil.proofs.MovesReading.{moves, moves_reading, moves_end}
use Rattle.lhg_forward.specs.InitText.{IsInit, IsInitText}
use Rattle.lhg_forward.proofs.InitReading.{inits, init_reading, init_end}
use Rattle.lhg_input.specs.Then.{IsSome}
use Rattle.lhg_input.proofs.Parts.{IsPart, IsLaterPart}

-- ---- grammars that speak of tokens

-- the tokens behind blank lines
behind_blank : (blanks lines : List (List ℕ)) → AreBlank blanks → token_lines (blanks ++ lines) ≡ token_lines lines
behind_blank blanks lines b = token_lines-append blanks lines ∙ ap (λ o. joined o (token_lines lines)) (blank_lines blanks b) ∙ joined_front (token_lines lines)

module _ {V : Type 0} (Tokens : List (List Spot) → V → Type 0) where
  -- a text that is a part is one behind blank lines too
  later_part : IsPart (λ lines v. IsTextBy (λ tokens. Tokens tokens v) lines) → IsLaterPart (λ lines v. IsTextBy (λ tokens. Tokens tokens v) lines)
  later_part part = record {
    part = part;
    put = λ blanks lines v b h. record { tokens = h.tokens; are = behind_blank blanks lines b ∙ h.are; is = h.is };
    dropped = λ blanks lines v b h. record { tokens = h.tokens; are = sym (behind_blank blanks lines b) ∙ h.are; is = h.is };
  }

  -- some lines are a text
  some_text : CanGoOn (λ tokens. (v : V) × Tokens tokens v) [] → CanStand (IsSome (λ lines v. IsTextBy (λ tokens. Tokens tokens v) lines)) []
  some_text c = (c.more, record { value = c.is.0; text = record { tokens = c.further; are = c.are; is = c.is.1 } })

-- ---- plants

pub plant_part : IsPart IsPlantText
plant_part = record { end = plant_end; one_value = plant_reading.one_value }

-- a plant that is read is proper
proper_of : (lines : List (List ℕ)) (a : PlainPlant) → IsPlantText lines a → IsProper a
proper_of lines a h = plant_proper h.tokens a (lines_lexed lines h.tokens h.are) h.is

-- ---- controllers

pub controller_part : (a : PlainPlant) → IsLaterPart (IsControllerText a)
controller_part a = later_part (IsController a) (record { end = controller_end a; one_value = (controller_reading a).one_value })

-- each plant has a controller
pub controller_follows : (lines : List (List ℕ)) (a : PlainPlant) → IsPlantText lines a → CanStand (IsSome (IsControllerText a)) []
controller_follows lines a h = some_text (IsController a) (controllers a).can_begin

-- ---- logs

pub log_part : (a : PlainPlant) → IsLaterPart (IsLogText a)
log_part a = later_part (IsLog a) (record { end = log_end a; one_value = (log_reading a).one_value })

-- each plant has a log
pub log_follows : (lines : List (List ℕ)) (a : PlainPlant) → IsPlantText lines a → CanStand (IsSome (IsLogText a)) []
log_follows lines a h = some_text (IsLog a) (logs a (proper_of lines a h)).can_begin

-- ---- states

one_line : (l m : List Spot) (more : List (List Spot)) → l ∷ more ≡ m ∷ [] → more ≡ []
one_line l m more e = cc

no_more_state : (a : PlainPlant) (tokens more : List (List Spot)) (s t : PlainState) → IsStateText a tokens s → IsStateText a (tokens ++ more) t → more ≡ []
no_more_state a tokens more s t h k = one_line h.line k.line more (ap (λ ls. ls ++ more) (sym h.lines_are) ∙ k.lines_are)

pub state_part : (a : PlainPlant) → IsLaterPart (IsStateLines a)
state_part a = later_part (IsStateText a) (record { end = blank_end (IsStateText a) (no_more_state a); one_value = (state_reading a).one_value })

-- each plant has a state
pub state_follows : (lines : List (List ℕ)) (a : PlainPlant) → IsPlantText lines a → CanStand (IsSome (IsStateLines a)) []
state_follows lines a h = some_text (IsStateText a) (some_state a (proper_of lines a h))

-- ---- first states

pub init_part : (a : PlainPlant) → IsLaterPart (IsInitText a)
init_part a = later_part (IsInit a) (record { end = init_end a; one_value = (init_reading a).one_value })

-- each plant has first states
pub init_follows : (lines : List (List ℕ)) (a : PlainPlant) → IsPlantText lines a → CanStand (IsSome (IsInitText a)) []
init_follows lines a h = some_text (IsInit a) (inits a).can_begin

-- ---- moves

pub moves_part : (a : PlainPlant) → IsLaterPart (IsMovesText a)
moves_part a = later_part (IsMoves a) (record { end = moves_end a; one_value = (moves_reading a).one_value })

-- each plant has moves
pub moves_follow : (a : PlainPlant) → CanStand (IsSome (IsMovesText a)) []
moves_follow a = some_text (IsMoves a) (moves a).can_begin
