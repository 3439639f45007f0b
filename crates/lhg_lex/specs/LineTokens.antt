-- Which tokens has a line from left to right, or which token error comes first?
use Rattle.std.specs.Prelude.{◌≡◌, ℕ, zero, suc, ◌+◌, ◌-◌, List, [], ◌∷◌, take, Bool, ◌||◌, ◌==◌, if◌then◌else◌, Result, Ok, Err}
use Rattle.std.specs.List.{before_first}
use Rattle.lhg_lex.specs.PlainToken.{PlainToken}
use Rattle.lhg_lex.specs.Token.{said}
use Rattle.lhg_lex.specs.Longest.{longest}
use Rattle.lhg_lex.specs.declared.stops.What.{What}

-- the line without one carriage return at its end
abbrev pub without_return : List ℕ → List ℕ
without_return [] = []
without_return (b ∷ []) = if b == 13 then [] else b ∷ []
without_return (b ∷ c ∷ bytes) = b ∷ without_return (c ∷ bytes)

-- the bytes of a line that count: without one carriage return at its end, and up to the comment that `#` begins
abbrev pub content_of : List ℕ → List ℕ
content_of line = before_first (λ b. b == 35) (without_return line)

-- a space or a tab
abbrev pub is_separator : ℕ → Bool
is_separator b = (b == 32) || (b == 9)

-- a token, and where it begins and ends in its line
pub record Spot : Type 0 where
  pub says : PlainToken
  pub from : ℕ
  pub to : ℕ

-- a token error, and its column, counted from 1
pub record Fault : Type 0 where
  pub column : ℕ
  pub what : What

-- a token of n bytes at a place, or its error, and then what follows
abbrev pub taken : ℕ → ℕ → Result PlainToken What → Result (List Spot) Fault → Result (List Spot) Fault
taken at n (Err what) rest = Err (record { column = at + 1; what = what })
taken at n (Ok token) (Err fault) = Err fault
taken at n (Ok token) (Ok spots) = Ok (record { says = token; from = at; to = at + n } ∷ spots)

-- The bytes from a place of the line on. The first ones may belong to a token that is taken already. A separator is
-- passed. Each other byte begins the longest token there.
abbrev pub tokens_from : (inside at : ℕ) → List ℕ → Result (List Spot) Fault
tokens_from inside at [] = Ok []
tokens_from (suc inside) at (b ∷ bytes) = tokens_from inside (suc at) bytes
tokens_from zero at (b ∷ bytes) =
    if is_separator b then tokens_from zero (suc at) bytes else
    taken at (longest (b ∷ bytes)) (said (take (longest (b ∷ bytes)) (b ∷ bytes))) (tokens_from (longest (b ∷ bytes) - 1) (suc at) bytes)

-- the tokens of a line
unfoldable pub tokens_of : List ℕ → Result (List Spot) Fault
tokens_of line = tokens_from 0 0 (content_of line)

-- a line without tokens
pub record IsBlankLine (line : List ℕ) : Type 0 where
  pub none : tokens_of line ≡ Ok []
