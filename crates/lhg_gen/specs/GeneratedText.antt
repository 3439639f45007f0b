-- Which text is the plant with k locations?
use Rattle.std.specs.Prelude.{ℕ, ◌+◌, ◌-◌, List, [], ◌∷◌, ◌++◌, map, codes, decimal}
use Rattle.std.specs.List.{flat_map, range_with_len}
use Rattle.lhg_row_text.specs.PrintedLine.{line, spaced}

-- the name of the location with this number
abbrev pub location_word : ℕ → List ℕ
location_word i = 97 ∷ decimal i

-- the name of the switch that leaves it
abbrev pub switch_word : ℕ → List ℕ
switch_word i = 103 ∷ decimal i

-- x grows from 0 to 10, and is safe up to 8 and from 9 on
abbrev pub location_lines : ℕ → List (List ℕ)
location_lines i = spaced (codes "loc" ∷ location_word i ∷ []) ∷ codes "inv 0 <= x <= 10" ∷ codes "flow x = 1" ∷ codes "safe x <= 8" ∷ codes "safe x >= 9" ∷ []

-- the controller may go on to the next location
abbrev pub switch_line : ℕ → List ℕ
switch_line i = spaced (codes "switch" ∷ switch_word i ∷ codes "ctl" ∷ location_word i ∷ location_word (i + 1) ∷ codes "keep" ∷ [])

-- the head, the locations from 1 to k, and the switches of all but the last
abbrev pub generated_lines : ℕ → List (List ℕ)
generated_lines k =
    codes "lhg 1" ∷ codes "vars x" ∷ (flat_map location_lines (range_with_len 1 k) ++ (map switch_line (range_with_len 1 (k - 1)) ++ codes "end" ∷ []))

-- each line ends with a line feed
abbrev pub generated_text : ℕ → List ℕ
generated_text k = flat_map line (generated_lines k)
