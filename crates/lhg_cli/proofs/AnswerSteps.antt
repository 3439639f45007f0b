-- What is an answer to a plant, to a source that may not tell its bytes, and to words?
use Rattle.std.proofs.Common.{◌≡◌, ◌<◌, ℕ, List, length, codes, Option, Some, None, IfSome, Result, Ok, Err, IfOk, inl, inr, refl, subst}
use Rattle.lhg_lex.specs.Lines.{most_bytes}
use Rattle.lhg_plant.specs.Plant.{PlainPlant}
use Rattle.lhg_row_text.specs.PrintedLine.{line}
use Rattle.lhg_cli.specs.Answer.{IsAnswer, IsAnswerTo, AnswersBytes}
use Rattle.lhg_cli.specs.PlantAnswer.{IsOutcome, IsStopText}
use Rattle.lhg_cli.specs.Words.{Asks, NeedsInput}
use Rattle.lhg_cli.specs.declared.request.Request.{Request}
use Rattle.lhg_cli.specs.declared.request.Request.TheVariants.{Gen}
use Rattle.lhg_cli.specs.declared.status.Status.{Status}
use Rattle.lhg_cli.specs.declared.status.Status.TheVariants as status
use Rattle.lhg_cli.proofs.InputSteps.{of_source, too_long_answer}
use Rattle.lhg_cli.proofs.WordSteps.{one_request}

-- what follows of the value of an answer
pub ok_by : {T E : Type 0} (P Q : T → Type 0) (r : Result T E) → ((x : T) → P x → Q x) → IfOk r P → IfOk r Q
ok_by P Q (Ok x) f h = f x h
ok_by P Q (Err e) f h = tt

-- where nothing solves the game, it does not matter how a solution would be told
pub stop_text : (tells : List ℕ → Type 0) (a : PlainPlant) (n : ℕ) (s : Status) (text : List ℕ) → IsStopText a n s text → IsOutcome tells a n s text
stop_text tells a n status.Done text h = absurd h
stop_text tells a n status.No text h = h
stop_text tells a n status.Words text h = h
stop_text tells a n status.Text text h = h
stop_text tells a n status.Wide text h = h
stop_text tells a n status.Lists text h = h
stop_text tells a n status.Spent text h = h
stop_text tells a n status.Read text h = h
stop_text tells a n status.Write text h = h
stop_text tells a n status.Memory text h = h

-- an answer to the bytes of a source is one to the source
pub told_for : (r : Request) → NeedsInput r → (input : Option (List ℕ)) (bytes read : List ℕ) (s : Status) (text : List ℕ) → IfSome input (λ left. read ≡ left) → bytes ≡ read → AnswersBytes r bytes s text
    → IsAnswerTo r input s text
told_for (Gen k) needs input bytes read s text same e h = absurd needs
told_for r needs input bytes read s text same e h = of_source (λ bs. AnswersBytes r bs s text) input bytes read same e h

-- an input that is too long is refused
pub too_long_for : (r : Request) → NeedsInput r → (input : Option (List ℕ)) (text : List ℕ) → text ≡ line (codes "text line 0 TooLong") → IfSome input (λ left. most_bytes < length left) → IsAnswerTo r input status.Text text
too_long_for (Gen k) needs input text e h = absurd needs
too_long_for r needs input text e h = too_long_answer (λ bs. AnswersBytes r bs status.Text text) (λ bytes long. inl (refl, inl (record { long = long; printed = e }))) input h

-- an answer to a source that tells its bytes is one to them
pub its_bytes : (r : Request) → NeedsInput r → (bytes : List ℕ) (s : Status) (text : List ℕ) → IsAnswerTo r (Some bytes) s text → AnswersBytes r bytes s text
its_bytes (Gen k) needs bytes s text h = absurd needs
its_bytes r needs bytes s text h = subst (λ bs. AnswersBytes r bs s text) h.told h.answer

-- the answer to words is one to what they ask for
pub its_answer : (words : List (List ℕ)) (input : Option (List ℕ)) (s : Status) (text : List ℕ) (r : Request) → Asks words r → IsAnswer words input s text → IsAnswerTo r input s text
its_answer words input s text r asked (inl a) = subst (λ (q : Request). IsAnswerTo q input s text) (one_request words a.request r a.asked asked) a.answer
its_answer words input s text r asked (inr h) = absurd (h.1 (r, asked))

-- what is promised of a fact where a fault did not come, where it came
pub faulted_for : (P : Type 0) {R : Type 0} (A : List ℕ → Type 0) (X : (bytes : List ℕ) → A bytes → Type 0) (input : Option (List ℕ)) → R
    → IfSome input (λ bytes. (a : A bytes) → P → (R → ⊥) → X bytes a)
faulted_for P A X None r = tt
faulted_for P A X (Some bytes) r = λ a p n. absurd (n r)

-- what is promised where a fault did not come, where it came
pub faulted : (X P : Type 0) {R : Type 0} (A : List ℕ → Type 0) (input : Option (List ℕ)) → R → IfSome input (λ bytes. A bytes → P → (R → ⊥) → X)
faulted X P A None r = tt
faulted X P A (Some bytes) r = λ a p n. absurd (n r)
