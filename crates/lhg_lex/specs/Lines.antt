-- Which lines has a text?
use Rattle.std.specs.Prelude.{ℕ, List, [], ◌∷◌, ◌==◌}
use Rattle.std.specs.List.{slice_split}

-- the parts between line feeds, without an empty last one
abbrev pub without_empty_last : List (List ℕ) → List (List ℕ)
without_empty_last [] = []
without_empty_last ([] ∷ []) = []
without_empty_last ((b ∷ bs) ∷ []) = (b ∷ bs) ∷ []
without_empty_last (part ∷ next ∷ parts) = part ∷ without_empty_last (next ∷ parts)

-- a line ends before each line feed, and at the end of the text
abbrev pub lines_of : List ℕ → List (List ℕ)
lines_of bytes = without_empty_last (slice_split (λ b. b == 10) bytes)

-- how many bytes a text may have
abbrev pub most_bytes : ℕ
most_bytes = 1048576
