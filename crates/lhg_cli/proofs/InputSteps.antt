-- What answers an input that is refused, and one that has a value?
use Rattle.std.proofs.Common.{◌≡◌, ◌≤◌, ◌<◌, ◌+◌, ◌⊎◌, ℕ, List, Option, Some, None, IfSome, Result, Ok, Err, IfOk, length, replicate, inl, inr, refl, ◌∙◌, subst, arith}
use Rattle.std.proofs.lemmas.List.{length-replicate}
use Rattle.lhg_lex.specs.Lines.{lines_of, most_bytes}
use Rattle.lhg_lex.specs.declared.stops.ReadStop.{ReadStop}
use Rattle.lhg_lex.specs.declared.stops.ReadStop.TheVariants.{Bad, Memory}
use Rattle.lhg_lex.proofs.FirstBadProofs.{none_bad}
use Rattle.lhg_input.specs.BadLine.{HasBadLine}
use Rattle.lhg_input.specs.Then.{IsSome}
use Rattle.lhg_cli.specs.InputAnswer.{IsInput, HasValue, IsBytesAnswer, HasAnswer}
use Rattle.lhg_cli.specs.Refusal.{IsRefusal, TellsStop}
use Rattle.lhg_cli.specs.declared.status.Status.{Status}
use Rattle.lhg_cli.specs.declared.status.Status.TheVariants as status
use Rattle.lhg_cli.specs.declared.solving.Answer.{Answer}

-- what follows of two facts of the value of an answer
pub ok_with : {T E : Type 0} (P Q R : T → Type 0) (r : Result T E) → ((x : T) → P x → Q x → R x) → IfOk r P → IfOk r Q → IfOk r R
ok_with P Q R (Ok x) f p q = f x p q
ok_with P Q R (Err e) f p q = tt

-- the line at which a reader stops is the first bad one
pub refusal : (IsText : List (List ℕ) → Type 0) (bytes : List ℕ) (stop : ReadStop) (text : List ℕ) → length bytes ≤ most_bytes → HasBadLine IsText bytes stop → TellsStop stop text → IsRefusal IsText bytes text
refusal IsText bytes (Bad number column what) text short bad told = inr (record { short = short; number = number; column = column; what = what; bad = bad; printed = told })
refusal IsText bytes Memory text short bad told = absurd told

-- a text of the grammar is not refused
pub not_refused : (IsText : List (List ℕ) → Type 0) (bytes text : List ℕ) → length bytes ≤ most_bytes → IsText (lines_of bytes) → ¬ IsRefusal IsText bytes text
not_refused IsText bytes text short is (inl long) = let l = long.long in omega (arith, l, short)
not_refused IsText bytes text short is (inr bad) = none_bad IsText _ bad.number is bad.bad.first

module _ {V : Type 0} (Is : List (List ℕ) → V → Type 0) (answers : V → Status → List ℕ → Type 0) (bytes : List ℕ) where
  -- the answer to an input at which a reader stops
  pub stop_answer : {E : Type 0} (r : Result Answer E) (stop : ReadStop) → length bytes ≤ most_bytes → HasBadLine (IsSome Is) bytes stop
      → IfOk r (λ a. a.status ≡ status.Text) → IfOk r (λ a. TellsStop stop a.text.items) → IfOk r (λ a. IsBytesAnswer Is answers bytes a.status a.text.items)
  stop_answer r stop short bad =
      ok_with (λ (a : Answer). a.status ≡ status.Text) (λ (a : Answer). TellsStop stop a.text.items) (λ (a : Answer). IsBytesAnswer Is answers bytes a.status a.text.items) r
      (λ a s t. inl (s, refusal (IsSome Is) bytes stop a.text.items short bad t))

  -- the answer to an input that has a value
  pub value_answer : {E : Type 0} (r : Result Answer E) (v : V) → length bytes ≤ most_bytes → Is (lines_of bytes) v
      → IfOk r (λ a. answers v a.status a.text.items) → IfOk r (λ a. IsBytesAnswer Is answers bytes a.status a.text.items)
  value_answer (Ok a) v short reads h = inr (record { input = record { short = short; value = v; reads = reads }; answer = h })
  value_answer (Err e) v short reads h = tt

  -- where there is a value, the answer is one to it
  pub of_value : (one : (v w : V) → Is (lines_of bytes) v → Is (lines_of bytes) w → v ≡ w) (input : IsInput Is bytes) (s : Status) (text : List ℕ) → IsBytesAnswer Is answers bytes s text → answers input.value s text
  of_value one input s text (inl h) = absurd (not_refused (IsSome Is) bytes text input.short (record { value = input.value; text = input.reads }) h.1)
  of_value one input s text (inr h) = subst (λ v. answers v s text) (one h.input.value input.value h.input.reads input.reads) h.answer

-- where there is none, it is refused
pub no_value : {V : Type 0} {Is : List (List ℕ) → V → Type 0} {holds : V → Type 0} (bytes : List ℕ) (s : Status) (text : List ℕ) → ¬ IsInput Is bytes → ((s ≡ status.Text) × IsRefusal (IsSome Is) bytes text) ⊎ HasValue Is holds bytes → s ≡ status.Text
no_value bytes s text none (inl h) = h.0
no_value bytes s text none (inr h) = absurd (none h.input)

-- an answer to bytes is one of the source that has them, or does not tell them
pub of_source : (answered : List ℕ → Type 0) (input : Option (List ℕ)) (bytes read : List ℕ) → IfSome input (λ left. read ≡ left) → bytes ≡ read → answered bytes → HasAnswer answered input
of_source answered None bytes read same e h = record { bytes = bytes; told = tt; answer = h }
of_source answered (Some left) bytes read same e h = record { bytes = bytes; told = e ∙ same; answer = h }

-- some input is longer than n
longer : (n : ℕ) → n < length {A = ℕ} (replicate (n + 1) 0)
longer n = let k = length-replicate {A = ℕ} (n + 1) 0 in omega (arith, k)

-- the refusal of an input that is too long
pub too_long_answer : (answered : List ℕ → Type 0) → ((bytes : List ℕ) → most_bytes < length bytes → answered bytes) → (input : Option (List ℕ)) → IfSome input (λ left. most_bytes < length left) → HasAnswer answered input
too_long_answer answered f None h = record { bytes = replicate (most_bytes + 1) 0; told = tt; answer = f (replicate (most_bytes + 1) 0) (longer most_bytes) }
too_long_answer answered f (Some left) h = record { bytes = left; told = refl; answer = f left h }
