-- What is read of a text so far, and does it go on?
use Rattle.std.specs.Prelude.{◌≡◌, ◌⊎◌, ℕ, List, [], ◌∷◌, ◌++◌, Some}
use Rattle.lhg_lex.specs.LineTokens.{Spot, IsBlankLine}
use Rattle.lhg_lex.specs.Reading.{Reading}
use Rattle.lhg_read.specs.TokenText.{token_lines, IsReadTo}

-- nothing, or lines of which the last is not blank
abbrev pub EndsFull : List (List ℕ) → Type 0
EndsFull lines = (lines ≡ []) ⊎ ((before : List (List ℕ)) × (last : List ℕ) × (lines ≡ before ++ last ∷ []) × ¬ IsBlankLine last)

-- these tokens are read
pub record Reads (old new : Reading) (tokens : List (List Spot)) : Type 0 where
  pub front : List (List ℕ)
  pub read : IsReadTo old new front
  pub are : token_lines front ≡ Some tokens
  pub full : EndsFull front

-- some further lines bring the tokens into the grammar
pub record CanGoOn (Is : List (List Spot) → Type 0) (tokens : List (List Spot)) : Type 0 where
  pub more : List (List ℕ)
  pub further : List (List Spot)
  pub are : token_lines more ≡ Some further
  pub is : Is (tokens ++ further)

-- no beginning of these tokens is in the grammar
abbrev pub NoneYet : (List (List Spot) → Type 0) → List (List Spot) → Type 0
NoneYet Is tokens = (a b : List (List Spot)) → tokens ≡ a ++ b → ¬ Is a
