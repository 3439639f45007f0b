-- Which text answers an input of a grammar, with which status?
use Rattle.std.specs.Prelude.{◌≡◌, ◌≤◌, ◌⊎◌, ℕ, List, length, Option, IfSome}
use Rattle.lhg_lex.specs.Lines.{lines_of, most_bytes}
use Rattle.lhg_input.specs.Then.{IsSome}
use Rattle.lhg_cli.specs.Refusal.{IsRefusal}
use Rattle.lhg_cli.specs.declared.status.Status.{Status}
use Rattle.lhg_cli.specs.declared.status.Status.TheVariants as status

-- the input is not too long, and a text of the grammar
pub record IsInput {V : Type 0} (Is : List (List ℕ) → V → Type 0) (bytes : List ℕ) : Type 0 where
  pub short : length bytes ≤ most_bytes
  pub value : V
  pub reads : Is (lines_of bytes) value

-- the input is a text of the grammar, and this holds of its value
pub record HasValue {V : Type 0} (Is : List (List ℕ) → V → Type 0) (holds : V → Type 0) (bytes : List ℕ) : Type 0 where
  pub input : IsInput Is bytes
  pub answer : holds input.value

-- the text that stands for the status, where each value has its answers: the refusal of an input that has no value, or an answer to its value
abbrev pub IsBytesAnswer : {V : Type 0} → (List (List ℕ) → V → Type 0) → (V → Status → List ℕ → Type 0) → List ℕ → Status → List ℕ → Type 0
IsBytesAnswer Is answers bytes s text = ((s ≡ status.Text) × IsRefusal (IsSome Is) bytes text) ⊎ HasValue Is (λ v. answers v s text) bytes

-- the input has this answer; where the source does not tell its bytes, some bytes have it
pub record HasAnswer (answered : List ℕ → Type 0) (input : Option (List ℕ)) : Type 0 where
  pub bytes : List ℕ
  pub told : IfSome input (λ left. bytes ≡ left)
  pub answer : answered bytes
