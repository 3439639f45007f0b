-- Which lines are the whole input of a command, and what do they say?
use Rattle.std.specs.Prelude.{ℕ, List}
use Rattle.lhg_row.specs.Piece.{PlainPiece}
use Rattle.lhg_plant.specs.Plant.{PlainPlant}
use Rattle.lhg_plant.specs.State.{PlainState}
use Rattle.lhg_read.specs.PlantText.{IsPlantText}
use Rattle.lhg_read.specs.StateText.{IsStateLines}
use Rattle.lhg_ctl.specs.ControllerGrammar.{IsControllerText}
use Rattle.lhg_ctl.specs.Draft.{PlainDraft}
use Rattle.lhg_ctl.specs.LogText.{PlainLog, IsLogText}
use Rattle.lhg_spoil.specs.Moves.{PlainCtlMove}
use Rattle.lhg_spoil.specs.MovesText.{IsMovesText}
use Rattle.lhg_forward.specs.InitText.{IsInitText}
use Rattle.lhg_input.specs.Then.{IsThen}

-- the text of a plant, then that of a controller of it
abbrev pub IsControllerInput : List (List ℕ) → PlainPlant × PlainDraft → Type 0
IsControllerInput lines input = IsThen IsPlantText IsControllerText lines input

-- the text of a plant, then that of a controller of it, then that of a log of the plant
abbrev pub IsLogInput : List (List ℕ) → (PlainPlant × PlainDraft) × PlainLog → Type 0
IsLogInput lines input = IsThen IsControllerInput (λ both. IsLogText both.0) lines input

-- the text of a plant, then that of a state of it
abbrev pub IsStateInput : List (List ℕ) → PlainPlant × PlainState → Type 0
IsStateInput lines input = IsThen IsPlantText IsStateLines lines input

-- the text of a plant, then that of its first states
abbrev pub IsInitInput : List (List ℕ) → PlainPlant × List (ℕ × PlainPiece) → Type 0
IsInitInput lines input = IsThen IsPlantText IsInitText lines input

-- the text of a plant, then that of a state of it, then that of a controller's moves against it
abbrev pub IsSpoilInput : List (List ℕ) → (PlainPlant × PlainState) × List PlainCtlMove → Type 0
IsSpoilInput lines input = IsThen IsStateInput (λ both. IsMovesText both.0) lines input
