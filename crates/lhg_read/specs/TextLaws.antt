-- What follows from a grammar of texts?
use Rattle.std.specs.Prelude.{◌≡◌, ℕ, List, ◌++◌}
use Rattle.lhg_lex.specs.FirstBad.{IsFirstBad}
use Rattle.lhg_read.specs.Rest.{AreBlank}

-- a text has one value at most; it has no first line that cannot stand there where it is one of the grammar, and else one at most
pub record HasOneReading {V : Type 0} (Is : List (List ℕ) → V → Type 0) (IsSome : List (List ℕ) → Type 0) : Type 0 where
  pub one_value : (lines : List (List ℕ)) (v w : V) → Is lines v → Is lines w → v ≡ w
  pub no_bad_line : (lines : List (List ℕ)) (n : ℕ) → IsSome lines → ¬ IsFirstBad IsSome lines n
  pub one_bad_line : (lines : List (List ℕ)) (n m : ℕ) → IsFirstBad IsSome lines n → IsFirstBad IsSome lines m → n ≡ m

-- blank lines may follow a text, and where it goes on as a text of the grammar only blank lines do
pub record HasBlankEnd {V : Type 0} (Is : List (List ℕ) → V → Type 0) : Type 0 where
  pub goes_on : (lines more : List (List ℕ)) (v : V) → Is lines v → AreBlank more → Is (lines ++ more) v
  pub ends : (lines more : List (List ℕ)) (v w : V) → Is lines v → Is (lines ++ more) w → AreBlank more
