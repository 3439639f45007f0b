-- Which text tells the run of a controller that is written over a log, with which status?
use Rattle.std.specs.Prelude.{◌≡◌, ◌⊎◌, ℕ, List, ◌++◌, codes, decimal, Some, None}
use Rattle.lhg_plant.specs.Controller.{PlainController, IsValid}
use Rattle.lhg_plant.specs.Log.{IsLegalLog, IsFirstIllegal}
use Rattle.lhg_plant.specs.Plant.{PlainPlant}
use Rattle.lhg_plant.specs.Pick.{picks}
use Rattle.lhg_plant.specs.Run.{PlainEntry, PlainStep}
use Rattle.lhg_plant.specs.State.{PlainState}
use Rattle.lhg_row_text.specs.PrintedLine.{line}
use Rattle.lhg_ctl.specs.Draft.{PlainDraft}
use Rattle.lhg_ctl.specs.LogText.{PlainLog}
use Rattle.lhg_run.specs.Answers.{IsTraceOf, IsTraceBefore}
use Rattle.lhg_run.specs.Numbers.{IsWideAt, IsLongAt}
use Rattle.lhg_text.specs.TraceText.{trace_text}
use Rattle.lhg_input.specs.Inputs.{IsLogInput}
use Rattle.lhg_cli.specs.InputAnswer.{IsInput}
use Rattle.lhg_cli.specs.Verdict.{controller_in, KeepsWritten, IsVerdictLine, IsCheckStop, IsWithinCheck}
use Rattle.lhg_cli.specs.declared.status.Status.{Status}
use Rattle.lhg_cli.specs.declared.status.Status.TheVariants as status

-- ---- the run of a controller
-- the trace of a run of the whole log, which is legal; all states that it visits are in the region
pub record IsRunText (a : PlainPlant) (c : PlainController) (start : PlainState) (entries : List PlainEntry) (text : List ℕ) : Type 0 where
  pub trace : List PlainStep
  pub is_trace : IsTraceOf a c start entries trace
  pub printed : text ≡ trace_text a trace None

-- the trace of the entries before the first illegal one, whose number the answer names
pub record IsIllegalText (a : PlainPlant) (c : PlainController) (start : PlainState) (entries : List PlainEntry) (text : List ℕ) : Type 0 where
  pub number : ℕ
  pub illegal : IsFirstIllegal (picks a c.region) a c start entries number
  pub trace : List PlainStep
  pub before : IsTraceBefore a c start entries number trace
  pub printed : text ≡ trace_text a trace (Some number)

-- what the run forms for an entry is past a limit, and the answer names the limit and the entry
pub record IsEntryStop (limit : List ℕ) (stops : ℕ → Type 0) (text : List ℕ) : Type 0 where
  pub number : ℕ
  pub stop : stops number
  pub printed : text ≡ line (limit ++ codes " entry " ++ decimal number)

-- the text that stands for the status where a controller runs
abbrev pub IsRunOutcome : PlainPlant → PlainController → PlainState → List PlainEntry → Status → List ℕ → Type 0
IsRunOutcome a c start entries status.Done text = IsRunText a c start entries text
IsRunOutcome a c start entries status.No text = IsIllegalText a c start entries text
IsRunOutcome a c start entries status.Words text = ⊥
IsRunOutcome a c start entries status.Text text = ⊥
IsRunOutcome a c start entries status.Wide text = IsEntryStop (codes "wide") (IsWideAt a c start entries) text
IsRunOutcome a c start entries status.Lists text = IsEntryStop (codes "rows") (IsLongAt a c start entries) text
IsRunOutcome a c start entries status.Spent text = ⊥
IsRunOutcome a c start entries status.Read text = ⊥
IsRunOutcome a c start entries status.Write text = ⊥
IsRunOutcome a c start entries status.Memory text = ⊥

-- ---- where the controller is written
-- the check answers: it is not valid, or a limit was passed
abbrev pub IsCheckNo : PlainPlant × PlainDraft → Status → List ℕ → Type 0
IsCheckNo written status.Done text = ⊥
IsCheckNo written status.No text = ¬ IsValid written.0 (controller_in written) × IsVerdictLine written text
IsCheckNo written status.Words text = ⊥
IsCheckNo written status.Text text = ⊥
IsCheckNo written status.Wide text = IsCheckStop written (codes "wide") (λ m. m.wide) text
IsCheckNo written status.Lists text = IsCheckStop written (codes "rows") (λ m. m.rows) text ⊎ IsCheckStop written (codes "pieces") (λ m. m.pieces) text
IsCheckNo written status.Spent text = ⊥
IsCheckNo written status.Read text = ⊥
IsCheckNo written status.Write text = ⊥
IsCheckNo written status.Memory text = ⊥

-- the controller keeps what is written, is valid, and its run over the log has this answer
pub record IsRunOf (input : (PlainPlant × PlainDraft) × PlainLog) (s : Status) (text : List ℕ) : Type 0 where
  pub keeps : KeepsWritten input.0.0 input.0.1 (controller_in input.0)
  pub valid : IsValid input.0.0 (controller_in input.0)
  pub outcome : IsRunOutcome input.0.0 (controller_in input.0) input.1.start input.1.entries s text

-- the answer of the check where the controller is not valid or a limit is passed, and else that of the run
abbrev pub IsRan : (PlainPlant × PlainDraft) × PlainLog → Status → List ℕ → Type 0
IsRan input s text = IsCheckNo input.0 s text ⊎ IsRunOf input s text

-- ---- where an answer is sure
-- the check stays within its limits, and so does each entry to which the run comes
pub record IsWithinRun (input : (PlainPlant × PlainDraft) × PlainLog) : Type 0 where
  pub check : IsWithinCheck input.0
  pub numbers : (k : ℕ) → ¬ IsWideAt input.0.0 (controller_in input.0) input.1.start input.1.entries k
  pub rows : (k : ℕ) → ¬ IsLongAt input.0.0 (controller_in input.0) input.1.start input.1.entries k

-- the input is a plant, a valid controller and a log, and no limit is passed
pub record IsRunnable (bytes : List ℕ) : Type 0 where
  pub input : IsInput IsLogInput bytes
  pub limits : IsWithinRun input.value
  pub valid : IsValid input.value.0.0 (controller_in input.value.0)

-- the input is a plant, a controller that is not valid, and a log, and the check stays within its limits
pub record IsUnrunnable (bytes : List ℕ) : Type 0 where
  pub input : IsInput IsLogInput bytes
  pub limits : IsWithinCheck input.value.0
  pub fails : ¬ IsValid input.value.0.0 (controller_in input.value.0)

-- yes where the log is legal, and else no
abbrev pub IsSureRun : (PlainPlant × PlainDraft) × PlainLog → Status → Type 0
IsSureRun input s =
    ((s ≡ status.Done) × IsLegalLog (picks input.0.0 (controller_in input.0).region) input.0.0 (controller_in input.0) input.1.start input.1.entries)
    ⊎ ((s ≡ status.No) × ¬ IsLegalLog (picks input.0.0 (controller_in input.0).region) input.0.0 (controller_in input.0) input.1.start input.1.entries)
