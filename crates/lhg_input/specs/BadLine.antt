-- Which line of an input is the first that cannot stand there, and what is wrong with it?
use Rattle.std.specs.Prelude.{◌≡◌, ◌-◌, ℕ, List, slice_get}
use Rattle.lhg_lex.specs.FirstBad.{IsFirstBad}
use Rattle.lhg_lex.specs.Lines.{lines_of}
use Rattle.lhg_lex.specs.declared.stops.ReadStop.{ReadStop}
use Rattle.lhg_lex.specs.declared.stops.ReadStop.TheVariants.{Bad, Memory}
use Rattle.lhg_lex.specs.declared.stops.What.{What}
use Rattle.lhg_read.specs.TokenText.{fault_at}

-- the line with this number, counted from 1, is the first that cannot stand in a text of the grammar, and this is what is wrong with it
pub record IsBadAt (IsText : List (List ℕ) → Type 0) (bytes : List ℕ) (line column : ℕ) (what : What) : Type 0 where
  pub first : IsFirstBad IsText (lines_of bytes) line
  pub fault : fault_at (slice_get (lines_of bytes) (line - 1)) ≡ record { column = column; what = what }

-- the cause of a refusal of an input; want of memory is free
abbrev pub HasBadLine : (List (List ℕ) → Type 0) → List ℕ → ReadStop → Type 0
HasBadLine IsText bytes (Bad line column what) = IsBadAt IsText bytes line column what
HasBadLine IsText bytes Memory = Unit {0}
