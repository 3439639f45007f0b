-- Which text tells whether a controller that is written is valid, with which status?
use Rattle.std.specs.Prelude.{◌≡◌, ◌<◌, ◌↔◌, ◌⊎◌, ℕ, List, [], ◌∷◌, ◌++◌, Bool, true, false, length, codes, slice_get}
use Rattle.lhg_num.specs.Marked.{Marked, and_then}
use Rattle.lhg_num.specs.declared.refusals.Halt.{Halt}
use Rattle.lhg_num.specs.declared.refusals.Halt.TheVariants.{Wide, Rows, Pieces, Memory}
use Rattle.lhg_plant.specs.Controller.{PlainController, IsValid}
use Rattle.lhg_plant.specs.Plant.{PlainPlant}
use Rattle.lhg_plant.specs.Region.{InRegion, InGuard}
use Rattle.lhg_plant.specs.State.{PlainState}
use Rattle.lhg_row_text.specs.PointText.{state_text}
use Rattle.lhg_row_text.specs.PrintedLine.{line, spaced, switch_name}
use Rattle.lhg_ctl.specs.Draft.{PlainDraft}
use Rattle.lhg_ctl.specs.DraftStates.{InDraft, InDraftGuard}
use Rattle.lhg_ctl.specs.Making.{controller_of}
use Rattle.lhg_check.specs.Check.{PlainVerdict, valid, unsafe, bad_guard, escapes, check}
use Rattle.lhg_check.specs.CheckLaws.{IsExactVerdict}
use Rattle.lhg_text.specs.TraceText.{IsPlacedState}
use Rattle.lhg_input.specs.Inputs.{IsControllerInput}
use Rattle.lhg_cli.specs.InputAnswer.{IsInput}
use Rattle.lhg_cli.specs.declared.status.Status.{Status}
use Rattle.lhg_cli.specs.declared.status.Status.TheVariants as status

-- ---- the controller and its verdict
-- the controller of what is written
abbrev pub controller_in : PlainPlant × PlainDraft → PlainController
controller_in written = (controller_of written.0 written.1).value

-- the calculus of its making and of its check
abbrev pub check_of : PlainPlant × PlainDraft → Marked PlainVerdict
check_of written = and_then (controller_of written.0 written.1) (λ c. check written.0 c)

-- the controller keeps exactly the states of the pieces and guards that are written
pub record KeepsWritten (a : PlainPlant) (d : PlainDraft) (c : PlainController) : Type 0 where
  pub region : (s : PlainState) → InRegion a c.region s ↔ InDraft a d s
  pub guards : (e : ℕ) (s : PlainState) → InGuard a c.guards e s ↔ InDraftGuard a d e s

-- ---- its text
-- what a verdict says, with the state that shows it
abbrev pub verdict_text : PlainPlant → PlainVerdict → List ℕ
verdict_text a valid = codes "valid"
verdict_text a (unsafe s) = codes "unsafe " ++ state_text a s
verdict_text a (bad_guard e s) = codes "bad guard " ++ spaced (switch_name (slice_get a.switches e) ∷ state_text a s ∷ [])
verdict_text a (escapes s) = codes "escapes " ++ state_text a s

-- the answer is yes or no
abbrev pub status_of : PlainVerdict → Status
status_of valid = status.Done
status_of (unsafe s) = status.No
status_of (bad_guard e s) = status.No
status_of (escapes s) = status.No

-- the state of the verdict is such a state, and its switch is there
abbrev pub IsPlacedVerdict : PlainPlant → PlainVerdict → Type 0
IsPlacedVerdict a valid = Unit {0}
IsPlacedVerdict a (unsafe s) = IsPlacedState a s
IsPlacedVerdict a (bad_guard e s) = (e < length a.switches) × IsPlacedState a s
IsPlacedVerdict a (escapes s) = IsPlacedState a s

-- ---- answers
-- the line of the verdict of the calculus, which is exact, on a controller that keeps what is written
pub record IsVerdictLine (written : PlainPlant × PlainDraft) (text : List ℕ) : Type 0 where
  pub keeps : KeepsWritten written.0 written.1 (controller_in written)
  pub exact : IsExactVerdict written.0 (controller_in written) (check_of written).value
  pub printed : text ≡ line (verdict_text written.0 (check_of written).value)

-- the calculus has the mark of a limit, and the answer names the limit
pub record IsCheckStop (written : PlainPlant × PlainDraft) (limit : List ℕ) (mark : Marked PlainVerdict → Bool) (text : List ℕ) : Type 0 where
  pub marked : mark (check_of written) ≡ true
  pub printed : text ≡ line (limit ++ codes " check")

-- the text that stands for the status: yes and no come exactly where the controller is valid and where it is not
abbrev pub IsChecked : PlainPlant × PlainDraft → Status → List ℕ → Type 0
IsChecked written status.Done text = IsValid written.0 (controller_in written) × IsVerdictLine written text
IsChecked written status.No text = ¬ IsValid written.0 (controller_in written) × IsVerdictLine written text
IsChecked written status.Words text = ⊥
IsChecked written status.Text text = ⊥
IsChecked written status.Wide text = IsCheckStop written (codes "wide") (λ m. m.wide) text
IsChecked written status.Lists text = IsCheckStop written (codes "rows") (λ m. m.rows) text ⊎ IsCheckStop written (codes "pieces") (λ m. m.pieces) text
IsChecked written status.Spent text = ⊥
IsChecked written status.Read text = ⊥
IsChecked written status.Write text = ⊥
IsChecked written status.Memory text = ⊥

-- the status and the text of a limit that is passed in the work of a place
abbrev pub TellsHalt : List ℕ → Halt → Status → List ℕ → Type 0
TellsHalt place Wide s text = (s ≡ status.Wide) × (text ≡ line (codes "wide " ++ place))
TellsHalt place Rows s text = (s ≡ status.Lists) × (text ≡ line (codes "rows " ++ place))
TellsHalt place Pieces s text = (s ≡ status.Lists) × (text ≡ line (codes "pieces " ++ place))
TellsHalt place Memory s text = ⊥

-- ---- where the check has a verdict
-- the calculus stays within its limits
pub record IsWithinCheck (written : PlainPlant × PlainDraft) : Type 0 where
  pub numbers : (check_of written).wide ≡ false
  pub rows : (check_of written).rows ≡ false
  pub pieces : (check_of written).pieces ≡ false

-- the input is a plant and a controller, and the calculus stays within its limits
pub record IsDecided (bytes : List ℕ) : Type 0 where
  pub input : IsInput IsControllerInput bytes
  pub limits : IsWithinCheck input.value

-- and the controller is valid
pub record IsValidInput (bytes : List ℕ) : Type 0 where
  pub decided : IsDecided bytes
  pub holds : IsValid decided.input.value.0 (controller_in decided.input.value)

-- and it is not
pub record IsInvalidInput (bytes : List ℕ) : Type 0 where
  pub decided : IsDecided bytes
  pub fails : ¬ IsValid decided.input.value.0 (controller_in decided.input.value)
