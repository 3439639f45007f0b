-- Which report answers the text of a plant, and why is there none?
use Rattle.std.specs.Prelude.{◌≡◌, ◌≤◌, ℕ, List}
use Rattle.lhg_lex.specs.Lines.{lines_of}
use Rattle.lhg_plant.specs.Plant.{PlainPlant}
use Rattle.lhg_plant.specs.Controller.{PlainController}
use Rattle.lhg_plant.specs.Loss.{PlainLoss}
use Rattle.lhg_plant.specs.Laws.{HasExactGuards}
use Rattle.lhg_plant.specs.Solution.{IsSolution}
use Rattle.lhg_read.specs.PlantText.{IsPlantText}
use Rattle.lhg_input.specs.BadLine.{HasBadLine}
use Rattle.lhg_input.specs.Then.{IsSome}
use Rattle.lhg_text.specs.ReportLaws.{IsWrittenReport, SameReport}
use Rattle.lhg_text.specs.ReportText.{report_text}
use Rattle.lhg_iterate.specs.Outcomes.{IsStoppedBy}
use Rattle.lhg_uses.specs.declared.reporting.NoReport.{NoReport}
use Rattle.lhg_uses.specs.declared.reporting.NoReport.TheVariants.{Text, Game, Memory}

-- the text is the report of what solves the game of the plant in at most so many rounds: its guards are exactly the states that their switches
-- keep in the region, and each report of the plant with this text says the same
pub record IsReport (a : PlainPlant) (budget : ℕ) (text : List ℕ) : Type 0 where
  pub controller : PlainController
  pub rounds : ℕ
  pub losses : List PlainLoss
  pub solves : IsSolution a controller rounds losses
  pub guards : HasExactGuards a controller
  pub within : rounds ≤ budget
  pub printed : text ≡ report_text a rounds controller losses
  pub one_reading : (r : ℕ) (c : PlainController) (ls : List PlainLoss) → IsWrittenReport a r c ls → report_text a r c ls ≡ text → SameReport rounds controller losses r c ls

-- the bytes are the text of a plant, and this is its report
pub record IsReportOf (bytes : List ℕ) (budget : ℕ) (text : List ℕ) : Type 0 where
  pub plant : PlainPlant
  pub written : IsPlantText (lines_of bytes) plant
  pub report : IsReport plant budget text

-- why a plant has no report: it is not solved within the budget, or memory is out
abbrev pub IsUnsolved : PlainPlant → ℕ → NoReport → Type 0
IsUnsolved a budget (Text stop) = ⊥
IsUnsolved a budget (Game stop) = IsStoppedBy a budget stop
IsUnsolved a budget Memory = Unit {0}

-- why bytes have none: they are the text of no plant, with their first line that cannot stand there; or they are that of a plant that has none
abbrev pub IsUnreported : List ℕ → ℕ → NoReport → Type 0
IsUnreported bytes budget (Text stop) = HasBadLine (IsSome IsPlantText) bytes stop
IsUnreported bytes budget (Game stop) = (a : PlainPlant) × IsPlantText (lines_of bytes) a × IsStoppedBy a budget stop
IsUnreported bytes budget Memory = Unit {0}
