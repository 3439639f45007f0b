-- What may stand behind the last part of a text, and which line is too much there?
use Rattle.std.specs.Prelude.{◌≡◌, ℕ, ◌+◌, ◌-◌, List}
use Rattle.std.specs.List.{AllByRecursion}
use Rattle.lhg_lex.specs.FirstBad.{IsFirstBad}
use Rattle.lhg_lex.specs.LineTokens.{tokens_of, IsBlankLine}
use Rattle.lhg_lex.specs.Reading.{Reading, left_of, IsNext}
use Rattle.lhg_lex.specs.declared.stops.What.{What}
use Rattle.lhg_lex.specs.declared.stops.ReadStop.{ReadStop}
use Rattle.lhg_lex.specs.declared.stops.ReadStop.TheVariants.{Bad, Memory}
use Rattle.lhg_read.specs.TokenText.{fault_in}

-- blank lines alone
abbrev pub AreBlank : List (List ℕ) → Type 0
AreBlank lines = AllByRecursion IsBlankLine lines

-- the line with this number is the next that is not blank, so the first that cannot stand there; and this is what is wrong with it
pub record IsSurplus (s : Reading) (line column : ℕ) (what : What) : Type 0 where
  pub before : ℕ
  pub bytes : List ℕ
  pub next : IsNext s before bytes
  pub counted : line ≡ before + 1
  pub not_blank : ¬ IsBlankLine bytes
  pub first : IsFirstBad AreBlank (left_of s) (line - s.read)
  pub fault : fault_in (tokens_of bytes) ≡ record { column = column; what = what }

-- the cause of a refusal: the first line that is too much, and what is wrong with it; want of memory is free
abbrev pub HasSurplus : Reading → ReadStop → Type 0
HasSurplus s (Bad line column what) = IsSurplus s line column what
HasSurplus s Memory = Unit {0}
