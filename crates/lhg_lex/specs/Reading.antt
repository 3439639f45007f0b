-- Which line of a text comes next, and what is read of it?
use Rattle.std.specs.Prelude.{◌≡◌, ℕ, zero, suc, ◌+◌, ◌<◌, ◌≤◌, List, [], ◌∷◌, ◌++◌, length, drop, map, All, Ok, Err, ⊤}
use Rattle.std.specs.List.{AllByRecursion}
use Rattle.lhg_lex.specs.Lines.{lines_of}
use Rattle.lhg_lex.specs.LineTokens.{Spot, tokens_of, IsBlankLine}
use Rattle.lhg_lex.specs.TextTokens.{placed, plain_line, IsSpan, InOrder}
use Rattle.lhg_lex.specs.declared.stops.What.{What}
use Rattle.lhg_lex.specs.declared.stops.ReadStop.{ReadStop}
use Rattle.lhg_lex.specs.declared.stops.ReadStop.TheVariants.{Bad, Memory}
use Rattle.lhg_lex.specs.declared.tokens.Line.{Line}

-- a text, and how many of its lines are read
pub record Reading : Type 0 where
  pub bytes : List ℕ
  pub read : ℕ

-- the lines that are not read yet
abbrev pub left_of : Reading → List (List ℕ)
left_of s = drop s.read (lines_of s.bytes)

-- where the line behind the first n lines begins: behind these and a line feed for each
abbrev pub start_of : ℕ → List (List ℕ) → ℕ
start_of zero lines = 0
start_of (suc n) [] = 0
start_of (suc n) (line ∷ lines) = (length line + 1) + start_of n lines

-- the place is where the line behind the first n lines of the text begins
pub record IsAt (bytes : List ℕ) (place n : ℕ) : Type 0 where
  pub begins : place ≡ start_of n (lines_of bytes)
  pub within : n ≤ length (lines_of bytes)

-- behind n lines of the text stands this line, and from the first line that is not read up to it all lines are blank
pub record IsNext (s : Reading) (n : ℕ) (line : List ℕ) : Type 0 where
  pub blanks : List (List ℕ)
  pub left : left_of s ≡ blanks ++ (line ∷ left_of (record s { read = n + 1 }))
  pub blank : AllByRecursion IsBlankLine blanks
  pub count : n ≡ s.read + length blanks
  pub within : n < length (lines_of s.bytes)

-- all lines that are left are blank
pub record IsAtEnd (s : Reading) : Type 0 where
  pub blank : AllByRecursion IsBlankLine (left_of s)

-- this is the next line that is not blank, with its number and its tokens, each its slice of the text
pub record IsTokenLine (s : Reading) (line : Line) : Type 0 where
  pub before : ℕ
  pub bytes : List ℕ
  pub spots : List Spot
  pub next : IsNext s before bytes
  pub counted : line.number ≡ before + 1
  pub reads : tokens_of bytes ≡ Ok spots
  pub some : 0 < length spots
  pub placed_at : line.tokens.items ≡ map (placed (start_of before (lines_of s.bytes))) spots
  pub says : plain_line s.bytes line ≡ record { number = line.number; tokens = map (λ t. t.says) spots }
  pub spans : All (IsSpan s.bytes) line.tokens.items
  pub order : InOrder 0 line.tokens.items (length s.bytes)

-- the line with this number is the next that is not blank, and this is its first token error
pub record IsBadLine (s : Reading) (line column : ℕ) (what : What) : Type 0 where
  pub before : ℕ
  pub bytes : List ℕ
  pub next : IsNext s before bytes
  pub counted : line ≡ before + 1
  pub faulty : tokens_of bytes ≡ Err (record { column = column; what = what })

-- the reading stops at a token error, or for want of memory
abbrev pub IsStop : Reading → ReadStop → Type 0
IsStop s (Bad line column what) = IsBadLine s line column what
IsStop s Memory = ⊤
