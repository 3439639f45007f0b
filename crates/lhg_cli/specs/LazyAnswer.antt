-- Which text tells a controller that switches at the rim alone, where such a one is valid, with which status?
use Rattle.std.specs.Prelude.{◌≡◌, ◌⊎◌, ℕ, Bool, true, false, List, ◌++◌, codes}
use Rattle.lhg_num.specs.Marked.{Marked, and_then}
use Rattle.lhg_plant.specs.Controller.{PlainController, IsValid}
use Rattle.lhg_plant.specs.Loss.{PlainLoss}
use Rattle.lhg_plant.specs.Plant.{PlainPlant}
use Rattle.lhg_plant.specs.Proper.{IsProper}
use Rattle.lhg_plant.specs.Region.{InGuard}
use Rattle.lhg_plant.specs.State.{PlainState}
use Rattle.lhg_read.specs.PlantText.{IsPlantText}
use Rattle.lhg_loss.specs.Iterate.{solution, solved}
use Rattle.lhg_loss.specs.StageFacts.{IsSolved}
use Rattle.lhg_row_text.specs.PrintedLine.{line}
use Rattle.lhg_ctl.specs.ControllerText.{controller_text}
use Rattle.lhg_check.specs.Check.{PlainVerdict, check}
use Rattle.lhg_lazy.specs.Rim.{IsCandidate}
use Rattle.lhg_lazy.specs.RimCalculus.{away, rim, candidate}
use Rattle.lhg_cli.specs.InputAnswer.{IsInput}
use Rattle.lhg_cli.specs.PlantAnswer.{IsStopText}
use Rattle.lhg_cli.specs.Settling.{IsSettled}
use Rattle.lhg_cli.specs.declared.status.Status.{Status}
use Rattle.lhg_cli.specs.declared.status.Status.TheVariants as status

-- ---- what is tried
-- what solves the game of the plant within the budget, which is that of the calculus
pub record IsSynthesised (a : PlainPlant) (budget : ℕ) (c : PlainController) : Type 0 where
  pub rounds : ℕ
  pub losses : List PlainLoss
  pub solves : IsSolved a budget c rounds losses
  pub calculus : solution a budget ≡ solved rounds c.region c.guards losses

-- the candidate of a controller, by what is outside its region and by its rim
abbrev pub candidate_of : PlainPlant → PlainController → Marked PlainController
candidate_of a c = and_then (away a c.region) (λ outside. and_then (rim a c.region outside) (λ edge. candidate a c.region c.guards edge))

-- the calculus of its making and of its check
abbrev pub trial_of : PlainPlant → PlainController → Marked PlainVerdict
trial_of a c = and_then (candidate_of a c) (check a)

-- ---- its text
-- the controller is valid, has the region of another one, and each of its guards lies in the guard of that one
pub record IsNoWider (a : PlainPlant) (c d : PlainController) : Type 0 where
  pub valid : IsValid a d
  pub region : d.region ≡ c.region
  pub lies_in : (e : ℕ) (s : PlainState) → InGuard a d.guards e s → InGuard a c.guards e s

-- the candidate of the calculus is the one of the controller and valid, and the text prints it
pub record IsCutText (a : PlainPlant) (c : PlainController) (text : List ℕ) : Type 0 where
  pub candidate : IsCandidate a c (candidate_of a c).value
  pub keeps : IsNoWider a c (candidate_of a c).value
  pub printed : text ≡ line (codes "lazy cut") ++ controller_text a (candidate_of a c).value

-- no candidate of the controller is valid, so not that of the calculus, and the text prints the controller
pub record IsFullText (a : PlainPlant) (c : PlainController) (text : List ℕ) : Type 0 where
  pub candidate : IsCandidate a c (candidate_of a c).value
  pub none_valid : (d : PlainController) → IsCandidate a c d → ¬ IsValid a d
  pub keeps : IsNoWider a c c
  pub printed : text ≡ line (codes "lazy full") ++ controller_text a c

-- the calculus has the mark of a limit, and the answer names the limit
pub record IsTrialStop (a : PlainPlant) (c : PlainController) (limit : List ℕ) (mark : Marked PlainVerdict → Bool) (text : List ℕ) : Type 0 where
  pub marked : mark (trial_of a c) ≡ true
  pub printed : text ≡ line (limit ++ codes " lazy")

-- the text that stands for the status where the controller solves the game
abbrev pub IsTried : PlainPlant → PlainController → Status → List ℕ → Type 0
IsTried a c status.Done text = IsCutText a c text ⊎ IsFullText a c text
IsTried a c status.No text = ⊥
IsTried a c status.Words text = ⊥
IsTried a c status.Text text = ⊥
IsTried a c status.Wide text = IsTrialStop a c (codes "wide") (λ m. m.wide) text
IsTried a c status.Lists text = IsTrialStop a c (codes "rows") (λ m. m.rows) text ⊎ IsTrialStop a c (codes "pieces") (λ m. m.pieces) text
IsTried a c status.Spent text = ⊥
IsTried a c status.Read text = ⊥
IsTried a c status.Write text = ⊥
IsTried a c status.Memory text = ⊥

-- ---- answers
-- some controller solves the game of the plant within the budget, and the text answers it
pub record IsTriedText (a : PlainPlant) (budget : ℕ) (s : Status) (text : List ℕ) : Type 0 where
  pub controller : PlainController
  pub synthesised : IsSynthesised a budget controller
  pub told : IsTried a controller s text

-- the text that stands for the status: a controller solves the game and is tried, or nothing solves it and the answer says why
abbrev pub IsLazied : ℕ → PlainPlant → Status → List ℕ → Type 0
IsLazied budget a s text = IsProper a × (IsTriedText a budget s text ⊎ IsStopText a budget s text)

-- ---- where there is such an answer
-- the trial of the controller stays within its limits
pub record IsWithinTrial (a : PlainPlant) (c : PlainController) : Type 0 where
  pub numbers : (trial_of a c).wide ≡ false
  pub rows : (trial_of a c).rows ≡ false
  pub pieces : (trial_of a c).pieces ≡ false

-- the input is the text of a plant that is settled within the budget, and the trial of what solves its game stays within its limits
pub record IsLazySolvable (bytes : List ℕ) (budget : ℕ) : Type 0 where
  pub input : IsInput IsPlantText bytes
  pub settled : IsSettled input.value budget
  pub limits : (c : PlainController) → IsSynthesised input.value budget c → IsWithinTrial input.value c
