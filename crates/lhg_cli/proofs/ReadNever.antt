-- No answer stands for a read that failed.
use Rattle.std.proofs.Common.{◌≡◌, ◌⊎◌, inl, inr, List, ℕ, Option, subst}
use Rattle.lhg_plant.specs.Plant.{PlainPlant}
use Rattle.lhg_plant.specs.State.{PlainState}
use Rattle.lhg_read.specs.PlantText.{IsPlantText}
use Rattle.lhg_input.specs.Inputs.{IsControllerInput, IsInitInput, IsLogInput, IsSpoilInput, IsStateInput}
use Rattle.lhg_cli.specs.Answer.{IsAnswer, IsAnswerTo, AnswersBytes}
use Rattle.lhg_cli.specs.InputAnswer.{IsBytesAnswer}
use Rattle.lhg_cli.specs.LazyAnswer.{IsLazied, IsTriedText}
use Rattle.lhg_cli.specs.Migration.{IsMigrated}
use Rattle.lhg_cli.specs.PlantAnswer.{IsStopText, IsSynthesis}
use Rattle.lhg_cli.specs.ReachAnswer.{IsReached}
use Rattle.lhg_cli.specs.RunAnswer.{IsRan}
use Rattle.lhg_cli.specs.SpoilAnswer.{IsSpoilOutcome}
use Rattle.lhg_cli.specs.StateAnswer.{IsStateAnswer}
use Rattle.lhg_cli.specs.Verdict.{IsChecked}
use Rattle.lhg_cli.specs.declared.request.Request.{Request}
use Rattle.lhg_cli.specs.declared.request.Request.TheVariants.{Synth, Check, Run, Explain, Migrate, Lazy, Spoil, Reach, Gen}
use Rattle.lhg_cli.specs.declared.status.Status.{Status}
use Rattle.lhg_cli.specs.declared.status.Status.TheVariants as status

read_not_text : status.Read ≡ status.Text → ⊥
read_not_text e = cc

read_not_done : status.Read ≡ status.Done → ⊥
read_not_done e = cc

read_not_words : status.Read ≡ status.Words → ⊥
read_not_words e = cc

-- none to bytes, where none to their value
no_bytes : {V : Type 0} (Is : List (List ℕ) → V → Type 0) (answers : V → Type 0) (bytes text : List ℕ) → ((v : V) → answers v → ⊥) → IsBytesAnswer Is (λ v s t. answers v) bytes status.Read text → ⊥
no_bytes Is answers bytes text none (inl r) = read_not_text r.0
no_bytes Is answers bytes text none (inr v) = none v.input.value v.answer

lazy_unread : (n : ℕ) (a : PlainPlant) (text : List ℕ) → IsTriedText a n status.Read text ⊎ IsStopText a n status.Read text → ⊥
lazy_unread n a text (inl h) = h.told
lazy_unread n a text (inr h) = h

state_unread : (n : ℕ) (v : PlainPlant × PlainState) (text : List ℕ) → IsStateAnswer n v status.Read text → ⊥
state_unread n (a, z) text h = h

to_bytes : (r : Request) (bytes text : List ℕ) → AnswersBytes r bytes status.Read text → ⊥
to_bytes (Synth n) bytes text h = no_bytes IsPlantText (λ v. IsSynthesis n v status.Read text) bytes text (λ v k. k.1) h
to_bytes Check bytes text h = no_bytes IsControllerInput (λ v. IsChecked v status.Read text) bytes text (λ v k. k) h
to_bytes Run bytes text h = no_bytes IsLogInput (λ v. IsRan v status.Read text) bytes text (λ v k. elim k [ inl kept ↦ kept | inr ran ↦ ran.outcome ]) h
to_bytes (Explain n) bytes text h = no_bytes IsStateInput (λ v. IsStateAnswer n v status.Read text) bytes text (λ v k. state_unread n v text k) h
to_bytes Migrate bytes text h = no_bytes IsControllerInput (λ v. IsMigrated v status.Read text) bytes text (λ v k. read_not_done k.0) h
to_bytes (Lazy n) bytes text h = no_bytes IsPlantText (λ v. IsLazied n v status.Read text) bytes text (λ v k. lazy_unread n v text k.1) h
to_bytes (Spoil n) bytes text h = no_bytes IsSpoilInput (λ v. IsSpoilOutcome n v status.Read text) bytes text (λ v k. k) h
to_bytes (Reach n) bytes text h = no_bytes IsInitInput (λ v. IsReached n v status.Read text) bytes text (λ v k. k) h
to_bytes (Gen k) bytes text h = h

-- none to what is asked for
to_request : (r : Request) (input : Option (List ℕ)) (text : List ℕ) → IsAnswerTo r input status.Read text → ⊥
to_request (Gen k) input text h = h
to_request r input text h = to_bytes r h.bytes text h.answer

-- so none to words
unread_words : (words : List (List ℕ)) (input : Option (List ℕ)) (text : List ℕ) → IsAnswer words input status.Read text → ⊥
unread_words words input text (inl h) = to_request h.request input text h.answer
unread_words words input text (inr h) = read_not_words h.0

pub never_read : (words : List (List ℕ)) (input : Option (List ℕ)) (s : Status) (text : List ℕ) → IsAnswer words input s text → s ≡ status.Read → ⊥
never_read words input s text h e = unread_words words input text (subst (λ (k : Status). IsAnswer words input k text) e h)
