-- Which text answers a plant within a budget of rounds, with which status?
use Rattle.std.specs.Prelude.{◌≡◌, ◌⊎◌, ℕ, Bool, List, ◌++◌, codes, decimal}
use Rattle.lhg_num.specs.Marked.{Marked}
use Rattle.lhg_plant.specs.Controller.{PlainController}
use Rattle.lhg_plant.specs.Loss.{PlainLoss}
use Rattle.lhg_plant.specs.Plant.{PlainPlant}
use Rattle.lhg_plant.specs.Proper.{IsProper}
use Rattle.lhg_plant.specs.State.{PlainState}
use Rattle.lhg_loss.specs.Iterate.{solution, solved, spent}
use Rattle.lhg_loss.specs.StageFacts.{IsSolved, IsSpent}
use Rattle.lhg_loss.specs.WorkLaws.{IsStopIn}
use Rattle.lhg_row_text.specs.PrintedLine.{line}
use Rattle.lhg_row_text.specs.PointText.{state_text}
use Rattle.lhg_text.specs.ReportText.{report_text}
use Rattle.lhg_text.specs.ReportLaws.{IsWrittenReport, SameReport}
use Rattle.lhg_cli.specs.declared.status.Status.{Status}
use Rattle.lhg_cli.specs.declared.status.Status.TheVariants as status

-- the text is the report of what solves the game of the plant within the budget; each report of the plant with this text has the same
-- number of rounds, pieces, guard pieces and records; and region, guards, rounds and records are those of the calculus
pub record IsReport (a : PlainPlant) (budget : ℕ) (text : List ℕ) : Type 0 where
  pub controller : PlainController
  pub rounds : ℕ
  pub losses : List PlainLoss
  pub printed : text ≡ report_text a rounds controller losses
  pub one_reading : (r : ℕ) (c : PlainController) (ls : List PlainLoss) → IsWrittenReport a r c ls → report_text a r c ls ≡ text → SameReport rounds controller losses r c ls
  pub solves : IsSolved a budget controller rounds losses
  pub calculus : solution a budget ≡ solved rounds controller.region controller.guards losses

-- the work of round i has the mark of a limit, and the answer names the limit and the round
pub record IsStopped (a : PlainPlant) (budget : ℕ) (limit : List ℕ) (mark : Marked (Unit {0}) → Bool) (text : List ℕ) : Type 0 where
  pub round : ℕ
  pub stop : IsStopIn a budget round mark
  pub printed : text ≡ line (limit ++ codes " round " ++ decimal round)

-- each round up to the budget removes a state, and the answer names the budget and a state that the last one removes, which is that of the calculus
pub record IsSpentText (a : PlainPlant) (budget : ℕ) (text : List ℕ) : Type 0 where
  pub state : PlainState
  pub removed : IsSpent a budget state
  pub calculus : solution a budget ≡ spent state
  pub printed : text ≡ line (codes "spent " ++ decimal budget) ++ line (codes "state " ++ state_text a state)

-- the text that stands for the status, where texts of this kind tell what solves the game
abbrev pub IsOutcome : (List ℕ → Type 0) → PlainPlant → ℕ → Status → List ℕ → Type 0
IsOutcome tells a budget status.Done text = tells text
IsOutcome tells a budget status.No text = ⊥
IsOutcome tells a budget status.Words text = ⊥
IsOutcome tells a budget status.Text text = ⊥
IsOutcome tells a budget status.Wide text = IsStopped a budget (codes "wide") (λ m. m.wide) text
IsOutcome tells a budget status.Lists text = IsStopped a budget (codes "rows") (λ m. m.rows) text ⊎ IsStopped a budget (codes "pieces") (λ m. m.pieces) text
IsOutcome tells a budget status.Spent text = IsSpentText a budget text
IsOutcome tells a budget status.Read text = ⊥
IsOutcome tells a budget status.Write text = ⊥
IsOutcome tells a budget status.Memory text = ⊥

-- the text that stands for the status where a controller of the plant is asked for
abbrev pub IsPlantAnswer : PlainPlant → ℕ → Status → List ℕ → Type 0
IsPlantAnswer a budget s text = IsOutcome (IsReport a budget) a budget s text

-- the same of a plant whose names, places and sizes are as they should be
abbrev pub IsSynthesis : ℕ → PlainPlant → Status → List ℕ → Type 0
IsSynthesis budget a s text = IsProper a × IsPlantAnswer a budget s text

-- the text that stands for the status where nothing solves the game
abbrev pub IsStopText : PlainPlant → ℕ → Status → List ℕ → Type 0
IsStopText a budget s text = IsOutcome (λ t. ⊥) a budget s text
