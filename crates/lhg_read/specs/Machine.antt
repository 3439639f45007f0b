-- Which texts begin with a first line, and go on with lines that are taken one after another, up to an end?
use Rattle.std.specs.Prelude.{◌≡◌, List, [], ◌∷◌, Bool, true, false, if◌then◌else◌, Option, Some, None}
use Rattle.std.specs.Option.{option_and_then}
use Rattle.lhg_lex.specs.LineTokens.{Spot}
use Rattle.lhg_lex.specs.Reading.{Reading}
use Rattle.lhg_read.specs.Reads.{Reads, CanGoOn}

-- what the tokens of lines change, one after the other; nothing comes behind the end
abbrev pub all_taken : {D : Type 0} → (D → List Spot → Option D) → (D → Bool) → D → List (List Spot) → Option D
all_taken take ended d [] = Some d
all_taken take ended d (l ∷ ls) = if ended d then None else option_and_then (λ e. all_taken take ended e ls) (take d l)

-- a first line, and lines that are taken
pub record IsBegun (D : Type 0) (begin : List Spot → Option D) (take : D → List Spot → Option D) (ended : D → Bool) (lines : List (List Spot)) (d : D) : Type 0 where
  pub head : List Spot
  pub rest : List (List Spot)
  pub start : D
  pub lines_are : lines ≡ head ∷ rest
  pub begins : begin head ≡ Some start
  pub taken : all_taken take ended start rest ≡ Some d

-- a text that has ended
abbrev pub IsWhole : (D : Type 0) → (List Spot → Option D) → (D → List Spot → Option D) → (D → Bool) → List (List Spot) → Type 0
IsWhole D begin take ended lines = (d : D) × IsBegun D begin take ended lines d × (ended d ≡ true)

-- between two lines
abbrev pub Between : (D : Type 0) → (List Spot → Option D) → (D → List Spot → Option D) → (D → Bool) → Reading → Reading → D → Type 0
Between D begin take ended old s d = (tokens : List (List Spot)) × Reads old s tokens × IsBegun D begin take ended tokens d

-- a grammar whose texts these are, and which goes on from each beginning
pub record IsMachine (D : Type 0) (begin : List Spot → Option D) (take : D → List Spot → Option D) (ended : D → Bool) (Is : List (List Spot) → Type 0) : Type 0 where
  pub whole : (lines : List (List Spot)) → Is lines → IsWhole D begin take ended lines
  pub can_begin : CanGoOn Is []
  pub can_end : (lines : List (List Spot)) (d : D) → IsBegun D begin take ended lines d → ended d ≡ false → CanGoOn Is lines
