-- When are lines the texts of two grammars, one behind the other?
use Rattle.std.specs.Prelude.{◌≡◌, ℕ, List, ◌++◌}

-- some lines in front are a text of the first grammar, and the rest is a text of the second, which knows the value of the first; the value is
-- that of both
pub record IsThen {V W : Type 0} (First : List (List ℕ) → V → Type 0) (Second : V → List (List ℕ) → W → Type 0) (lines : List (List ℕ)) (value : V × W) : Type 0 where
  pub front : List (List ℕ)
  pub rest : List (List ℕ)
  pub lines_are : lines ≡ front ++ rest
  pub first : First front value.0
  pub second : Second value.0 rest value.1

-- the lines are a text of the grammar, with some value
pub record IsSome {V : Type 0} (Is : List (List ℕ) → V → Type 0) (lines : List (List ℕ)) : Type 0 where
  pub value : V
  pub text : Is lines value
