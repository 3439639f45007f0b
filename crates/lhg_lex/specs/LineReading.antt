-- What does it mean, read off the line itself, that it has these tokens, or this token error first?
use Rattle.std.specs.Prelude.{◌≡◌, ℕ, ◌+◌, ◌<◌, ◌≤◌, List, [], ◌∷◌, ◌++◌, length, take, slice_index, slice_range, Bool, true, false, Result, Ok, Err}
use Rattle.std.specs.List.{list_all}
use Rattle.lhg_lex.specs.Token.{said}
use Rattle.lhg_lex.specs.Longest.{IsLongest}
use Rattle.lhg_lex.specs.LineTokens.{is_separator, Spot, Fault}

-- spaces and tabs alone
abbrev pub are_separators : List ℕ → Bool
are_separators gap = list_all is_separator gap

-- the bytes from a place on are separators, then this token, the longest that stands there, and then the rest
pub record IsTokenThen (at : ℕ) (bytes : List ℕ) (spot : Spot) (rest : List ℕ) : Type 0 where
  pub gap : List ℕ
  pub token : List ℕ
  pub parts : bytes ≡ gap ++ (token ++ rest)
  pub separators : are_separators gap ≡ true
  pub from : spot.from ≡ at + length gap
  pub to : spot.to ≡ spot.from + length token
  pub says : said token ≡ Ok spot.says
  pub longest : IsLongest (token ++ rest) (length token)

-- the bytes from a place on are these tokens in order, and what is left ends so
abbrev pub Reads : (ℕ → List ℕ → Type 0) → ℕ → List ℕ → List Spot → Type 0
Reads Ends at bytes [] = Ends at bytes
Reads Ends at bytes (spot ∷ spots) = (rest : List ℕ) × IsTokenThen at bytes spot rest × Reads Ends spot.to rest spots

-- separators alone
pub record EndsWell (at : ℕ) (bytes : List ℕ) : Type 0 where
  pub separators : are_separators bytes ≡ true

-- separators, and then a byte that begins no token, or begins a token with an error
pub record EndsIn (fault : Fault) (at : ℕ) (bytes : List ℕ) : Type 0 where
  pub gap : List ℕ
  pub rest : List ℕ
  pub parts : bytes ≡ gap ++ rest
  pub separators : are_separators gap ≡ true
  pub some : 0 < length rest
  pub byte : is_separator (slice_index rest 0) ≡ false
  pub column : fault.column ≡ at + length gap + 1
  pub error : (n : ℕ) → IsLongest rest n → said (take n rest) ≡ Err fault.what

-- what an answer for a line says of its bytes
abbrev pub IsReadAs : ℕ → List ℕ → Result (List Spot) Fault → Type 0
IsReadAs at bytes (Ok spots) = Reads EndsWell at bytes spots
IsReadAs at bytes (Err fault) = (spots : List Spot) × Reads (EndsIn fault) at bytes spots

-- the tokens are slices of the line, in order from a place on, and each says what its slice says
abbrev pub AreSlices : List ℕ → ℕ → List Spot → Type 0
AreSlices line low [] = low ≤ length line
AreSlices line low (spot ∷ spots) = (low ≤ spot.from) × (spot.from < spot.to) × (said (slice_range line spot.from spot.to) ≡ Ok spot.says) × AreSlices line spot.to spots
