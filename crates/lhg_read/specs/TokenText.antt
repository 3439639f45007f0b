-- When are lines a text of a grammar that speaks of their tokens, and when is a text refused?
use Rattle.std.specs.Prelude.{◌≡◌, ◌⊎◌, ℕ, ◌+◌, ◌-◌, ◌≤◌, List, [], ◌∷◌, ◌++◌, length, take, slice_get, Option, Some, None, Result, Ok, Err}
use Rattle.lhg_lex.specs.LineTokens.{Spot, Fault, tokens_of, IsBlankLine}
use Rattle.lhg_lex.specs.FirstBad.{IsFirstBad}
use Rattle.lhg_lex.specs.Lines.{lines_of}
use Rattle.lhg_lex.specs.Reading.{Reading, left_of, IsAtEnd, IsBadLine}
use Rattle.lhg_lex.specs.declared.stops.What.{What}
use Rattle.lhg_lex.specs.declared.stops.What.TheVariants.{NotHere}
use Rattle.lhg_lex.specs.declared.stops.ReadStop.{ReadStop}
use Rattle.lhg_lex.specs.declared.stops.ReadStop.TheVariants.{Bad, Memory}
use Rattle.lhg_read.specs.Options.{joined}

-- the tokens of one line: none of a blank line, and no value where the line has a token error
abbrev pub token_line : Result (List Spot) Fault → Option (List (List Spot))
token_line (Ok []) = Some []
token_line (Ok (spot ∷ spots)) = Some ((spot ∷ spots) ∷ [])
token_line (Err fault) = None

-- the lines that have tokens, in order, where no line has a token error
abbrev pub token_lines : List (List ℕ) → Option (List (List Spot))
token_lines [] = Some []
token_lines (line ∷ lines) = joined (token_line (tokens_of line)) (token_lines lines)

-- no line has a token error, and the lines with tokens are in the grammar
pub record IsTextBy (Is : List (List Spot) → Type 0) (lines : List (List ℕ)) : Type 0 where
  pub tokens : List (List Spot)
  pub are : token_lines lines ≡ Some tokens
  pub is : Is tokens

-- ---- reading

-- between two readings of a text stand these lines
pub record IsReadTo (old new : Reading) (front : List (List ℕ)) : Type 0 where
  pub left : left_of old ≡ front ++ left_of new
  pub bytes : new.bytes ≡ old.bytes
  pub count : new.read ≡ old.read + length front

-- the lines that are read are a text of the grammar, and the last of them is not blank
pub record ReadsText (Is : List (List Spot) → Type 0) (old new : Reading) : Type 0 where
  pub before : List (List ℕ)
  pub last : List ℕ
  pub read : IsReadTo old new (before ++ last ∷ [])
  pub text : IsTextBy Is (before ++ last ∷ [])
  pub not_blank : ¬ IsBlankLine last

-- ---- refusal

-- what is wrong in a line that cannot stand where it does: its first token error, or else just that, with column 0
abbrev pub fault_in : Result (List Spot) Fault → Fault
fault_in (Ok spots) = record { column = 0; what = NotHere }
fault_in (Err fault) = fault

-- the same where the text may have ended
abbrev pub fault_at : Option (List ℕ) → Fault
fault_at (Some line) = fault_in (tokens_of line)
fault_at None = record { column = 0; what = NotHere }

-- no beginning of the lines that were left is a text; this is the first line that cannot stand where it does, and what is wrong with it
pub record IsFirstFault (IsText : List (List ℕ) → Type 0) (s : Reading) (line column : ℕ) (what : What) : Type 0 where
  pub n : ℕ
  pub none : (k : ℕ) → ¬ IsText (take k (left_of s))
  pub counted : line ≡ s.read + n
  pub first : IsFirstBad IsText (left_of s) n
  pub fault : fault_at (slice_get (left_of s) (n - 1)) ≡ record { column = column; what = what }

-- the cause of a refusal: the first line that cannot stand there, and what is wrong with it; want of memory is free
abbrev pub HasCause : (List (List ℕ) → Type 0) → Reading → ReadStop → Type 0
HasCause IsText s (Bad line column what) = IsFirstFault IsText s line column what
HasCause IsText s Memory = Unit {0}

-- no line with tokens comes: the next line that is not blank has a token error, or there is none, which is said of the line after the last one
abbrev pub IsNoLine : Reading → ReadStop → Type 0
IsNoLine s (Bad line column what) = IsBadLine s line column what ⊎ (IsAtEnd s × (s.read ≤ length (lines_of s.bytes)) × (line ≡ length (lines_of s.bytes) + 1) × (column ≡ 0) × (what ≡ NotHere))
IsNoLine s Memory = Unit {0}
