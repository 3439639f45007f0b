-- The input that is a plant and its first states: what is said of the whole when its parts are read, or one is refused.
use Rattle.std.proofs.Common.{◌≡◌, ℕ, List}
use Rattle.lhg_lex.specs.Lines.{lines_of}
use Rattle.lhg_lex.specs.Reading.{Reading, IsAtEnd}
use Rattle.lhg_lex.specs.declared.stops.ReadStop.{ReadStop}
use Rattle.lhg_row.specs.Piece.{PlainPiece}
use Rattle.lhg_plant.specs.Plant.{PlainPlant}
use Rattle.lhg_read.specs.PlantText.{IsPlant, IsPlantText, IsSomePlantText}
use Rattle.lhg_read.specs.Rest.{HasSurplus}
use Rattle.lhg_read.specs.TextLaws.{HasOneReading}
use Rattle.lhg_read.specs.TokenText.{ReadsText, HasCause}
use Rattle.lhg_forward.specs.InitText.{IsInit, IsInitText, IsSomeInit, IsSomeInitText}
use Rattle.lhg_input.specs.BadLine.{HasBadLine}
use Rattle.lhg_input.specs.Inputs.{IsInitInput}
use Rattle.lhg_input.specs.Then.{IsSome}
use Rattle.lhg_input.proofs.PartRefusals.{first_refused, second_refused}
use Rattle.lhg_input.proofs.Parts.{IsPart, both_parts}
use Rattle.lhg_input.proofs.Readings.{start, Stands, next_read, same_cause, whole_refused, input_ends, surplus_refused}
use Rattle.lhg_input.proofs.TextParts.{plant_part, init_part, init_follows}
use Rattle.lhg_input.proofs.Wholes.{one_reading, cause_of, plant_fault, plant_read}

init_input : IsPart IsInitInput
init_input = both_parts IsPlantText IsInitText plant_part init_part

pub inits_one : HasOneReading IsInitInput (IsSome IsInitInput)
inits_one = one_reading IsInitInput init_input

module _ (bytes : List ℕ) (first : Reading) (begins : first ≡ start bytes) where
  pub refused_before_init : (stop : ReadStop) → HasCause IsSomePlantText first stop → HasBadLine (IsSome IsInitInput) bytes stop
  refused_before_init stop h = whole_refused (IsSome IsInitInput) bytes stop (first_refused IsPlantText IsInitText init_follows (start bytes) stop (plant_fault bytes first begins stop h))

  module _ (a : PlainPlant) (s : Reading) (r : ReadsText (λ tokens. IsPlant tokens a) first s) where
    pub init_refused : (stop : ReadStop) → HasCause (IsSomeInitText a) s stop → HasBadLine (IsSome IsInitInput) bytes stop
    init_refused stop h = whole_refused (IsSome IsInitInput) bytes stop (second_refused IsPlantText IsInitText plant_part init_part bytes s a (plant_read bytes first begins a s r) stop (cause_of (IsInit a) s stop h))

    module _ (ps : List (ℕ × PlainPiece)) (t : Reading) (q : ReadsText (λ tokens. IsInit a tokens ps) s t) where
      init_read : Stands IsInitInput bytes t (a, ps)
      init_read = next_read IsPlantText IsInit bytes s t a ps (plant_read bytes first begins a s r) q

      pub init_ends : IsAtEnd t → IsInitInput (lines_of bytes) (a, ps)
      init_ends = input_ends IsInitInput init_input bytes t (a, ps) init_read

      pub behind_init : (stop : ReadStop) → HasSurplus t stop → HasBadLine (IsSome IsInitInput) bytes stop
      behind_init = surplus_refused IsInitInput init_input bytes t (a, ps) init_read
