-- When is an input refused as a text, and what does the answer say?
use Rattle.std.specs.Prelude.{◌≡◌, ◌<◌, ◌≤◌, ◌⊎◌, ℕ, List, ◌++◌, length, codes, decimal}
use Rattle.lhg_lex.specs.Lines.{most_bytes}
use Rattle.lhg_lex.specs.declared.stops.ReadStop.{ReadStop}
use Rattle.lhg_lex.specs.declared.stops.ReadStop.TheVariants.{Bad, Memory}
use Rattle.lhg_lex.specs.declared.stops.What.{What}
use Rattle.lhg_lex.specs.declared.stops.What.TheVariants.{BadByte, LongNumber, ZeroDenominator, NotHere}
use Rattle.lhg_row_text.specs.PrintedLine.{line}
use Rattle.lhg_input.specs.BadLine.{IsBadAt}

-- the name of an error
abbrev pub what_text : What → List ℕ
what_text BadByte = codes "BadByte"
what_text LongNumber = codes "LongNumber"
what_text ZeroDenominator = codes "ZeroDenominator"
what_text NotHere = codes "NotHere"

-- the line that names a line of the input and its error
abbrev pub bad_line : ℕ → What → List ℕ
bad_line number what = line (codes "text line " ++ decimal number ++ codes " " ++ what_text what)

-- the text names the line and the error at which a reader stops; for want of memory there is none
abbrev pub TellsStop : ReadStop → List ℕ → Type 0
TellsStop (Bad number column what) text = text ≡ bad_line number what
TellsStop Memory text = ⊥

-- the input is too long, and the answer says so
pub record IsTooLong (bytes text : List ℕ) : Type 0 where
  pub long : most_bytes < length bytes
  pub printed : text ≡ line (codes "text line 0 TooLong")

-- the answer names the first line that cannot stand in a text of the grammar, and its error
pub record NamesBadLine (IsText : List (List ℕ) → Type 0) (bytes text : List ℕ) : Type 0 where
  pub short : length bytes ≤ most_bytes
  pub number : ℕ
  pub column : ℕ
  pub what : What
  pub bad : IsBadAt IsText bytes number column what
  pub printed : text ≡ bad_line number what

-- the input is too long, or it is no text of the grammar and the answer names its first bad line
abbrev pub IsRefusal : (List (List ℕ) → Type 0) → List ℕ → List ℕ → Type 0
IsRefusal IsText bytes text = IsTooLong bytes text ⊎ NamesBadLine IsText bytes text
