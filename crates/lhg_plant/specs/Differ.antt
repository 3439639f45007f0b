-- When do names differ?
use Rattle.std.specs.Prelude.{ℕ, Bool, true, not, ◌&&◌, List, [], ◌∷◌, ◌++◌}
use Rattle.std.specs.List.{list_any}
use Rattle.std.specs.Str.{bytes_eq}

-- the bytes are among the names
abbrev pub is_among : List ℕ → List (List ℕ) → Bool
is_among w names = list_any (λ name. bytes_eq name w) names

-- each name differs from all before it, and from those of the first list
abbrev pub differ_from : List (List ℕ) → List (List ℕ) → Bool
differ_from before [] = true
differ_from before (name ∷ names) = not (is_among name before) && differ_from (before ++ name ∷ []) names

-- no name stands twice
abbrev pub all_differ : List (List ℕ) → Bool
all_differ names = differ_from [] names
