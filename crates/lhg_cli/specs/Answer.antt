-- Which text stands for which status, by the words and the bytes of the input?
use Rattle.std.specs.Prelude.{◌≡◌, ◌<◌, ℕ, List, length, codes, Option, IfSome, ◌⊎◌}
use Rattle.std.specs.Io.KnownBytes.{IsAtEnd}
use Rattle.lhg_lex.specs.Lines.{most_bytes}
use Rattle.lhg_read.specs.PlantText.{IsPlantText}
use Rattle.lhg_row_text.specs.PrintedLine.{line}
use Rattle.lhg_input.specs.Inputs.{IsControllerInput, IsInitInput, IsLogInput, IsSpoilInput, IsStateInput}
use Rattle.lhg_cli.specs.InputAnswer.{IsInput, IsBytesAnswer, HasAnswer}
use Rattle.lhg_cli.specs.LazyAnswer.{IsLazied}
use Rattle.lhg_cli.specs.Migration.{IsMigrated}
use Rattle.lhg_cli.specs.PlantAnswer.{IsSynthesis}
use Rattle.lhg_cli.specs.ReachAnswer.{IsReached}
use Rattle.lhg_cli.specs.RunAnswer.{IsRan}
use Rattle.lhg_cli.specs.Settling.{IsSettled, IsUnsettled}
use Rattle.lhg_cli.specs.SpoilAnswer.{IsSpoilOutcome}
use Rattle.lhg_cli.specs.StateAnswer.{IsStateAnswer}
use Rattle.lhg_cli.specs.Summary.{IsGenAnswer}
use Rattle.lhg_cli.specs.Verdict.{IsChecked}
use Rattle.lhg_cli.specs.Words.{Asks, AreKnown}
use Rattle.lhg_cli.specs.declared.request.Request.{Request}
use Rattle.lhg_cli.specs.declared.request.Request.TheVariants.{Synth, Check, Run, Explain, Migrate, Lazy, Spoil, Reach, Gen}
use Rattle.lhg_cli.specs.declared.status.Status.{Status}
use Rattle.lhg_cli.specs.declared.status.Status.TheVariants as status

abbrev pub usage_text : List ℕ
usage_text = line (codes "usage: lhg synth [N] | check | run | explain [N] | gen K | migrate | lazy [N] | spoil [N] | reach [N]")

-- the text that stands for the status of what is asked for of the bytes of an input
abbrev pub AnswersBytes : Request → List ℕ → Status → List ℕ → Type 0
AnswersBytes (Synth n) bytes s text = IsBytesAnswer IsPlantText (IsSynthesis n) bytes s text
AnswersBytes Check bytes s text = IsBytesAnswer IsControllerInput IsChecked bytes s text
AnswersBytes Run bytes s text = IsBytesAnswer IsLogInput IsRan bytes s text
AnswersBytes (Explain n) bytes s text = IsBytesAnswer IsStateInput (IsStateAnswer n) bytes s text
AnswersBytes Migrate bytes s text = IsBytesAnswer IsControllerInput IsMigrated bytes s text
AnswersBytes (Lazy n) bytes s text = IsBytesAnswer IsPlantText (IsLazied n) bytes s text
AnswersBytes (Spoil n) bytes s text = IsBytesAnswer IsSpoilInput (IsSpoilOutcome n) bytes s text
AnswersBytes (Reach n) bytes s text = IsBytesAnswer IsInitInput (IsReached n) bytes s text
AnswersBytes (Gen k) bytes s text = ⊥

-- the text that stands for the status of what is asked for, of an input where that is needed
abbrev pub IsAnswerTo : Request → Option (List ℕ) → Status → List ℕ → Type 0
IsAnswerTo (Gen k) input s text = IsGenAnswer k s text
IsAnswerTo r input s text = HasAnswer (λ bytes. AnswersBytes r bytes s text) input

-- the words ask for something that has this answer
pub record IsAskedFor (words : List (List ℕ)) (input : Option (List ℕ)) (s : Status) (text : List ℕ) : Type 0 where
  pub request : Request
  pub asked : Asks words request
  pub answer : IsAnswerTo request input s text

-- the text that stands for the status: the answer to what the words ask for, or the usage line where they are not known
abbrev pub IsAnswer : List (List ℕ) → Option (List ℕ) → Status → List ℕ → Type 0
IsAnswer words input s text = IsAskedFor words input s text ⊎ ((s ≡ status.Words) × ¬ AreKnown words × (text ≡ usage_text))

-- the statuses whose answer is written whole
abbrev pub IsAnswered : Status → Type 0
IsAnswered status.Done = Unit {0}
IsAnswered status.No = Unit {0}
IsAnswered status.Words = Unit {0}
IsAnswered status.Text = Unit {0}
IsAnswered status.Wide = Unit {0}
IsAnswered status.Lists = Unit {0}
IsAnswered status.Spent = Unit {0}
IsAnswered status.Read = ⊥
IsAnswered status.Write = ⊥
IsAnswered status.Memory = ⊥

-- the input is a text of what is asked for
abbrev pub IsTextFor : Request → List ℕ → Type 0
IsTextFor (Synth n) bytes = IsInput IsPlantText bytes
IsTextFor Check bytes = IsInput IsControllerInput bytes
IsTextFor Run bytes = IsInput IsLogInput bytes
IsTextFor (Explain n) bytes = IsInput IsStateInput bytes
IsTextFor Migrate bytes = IsInput IsControllerInput bytes
IsTextFor (Lazy n) bytes = IsInput IsPlantText bytes
IsTextFor (Spoil n) bytes = IsInput IsSpoilInput bytes
IsTextFor (Reach n) bytes = IsInput IsInitInput bytes
IsTextFor (Gen k) bytes = Unit {0}

-- the input is the text of a plant that is settled within the budget
pub record IsSolvable (bytes : List ℕ) (budget : ℕ) : Type 0 where
  pub input : IsInput IsPlantText bytes
  pub settled : IsSettled input.value budget

-- the input is the text of a plant that is not
pub record IsUsedUp (bytes : List ℕ) (budget : ℕ) : Type 0 where
  pub input : IsInput IsPlantText bytes
  pub unsettled : IsUnsettled input.value budget

-- the input is read to its end, unless it is too long
abbrev pub IsReadToEnd : Option (List ℕ) → Option (List ℕ) → Status → Type 0
IsReadToEnd before now s = IsAtEnd now ⊎ ((s ≡ status.Text) × IfSome before (λ bytes. most_bytes < length bytes))
