-- How are the lines of a printed text put together?
use Rattle.std.specs.Prelude.{ℕ, List, [], ◌∷◌, ◌++◌, Option, Some, None}
use Rattle.std.specs.List.{join_with_byte}
use Rattle.lhg_plant.specs.Plant.{PlainLocation, PlainSwitch}

-- the text and a line feed
abbrev pub line : List ℕ → List ℕ
line text = text ++ 10 ∷ []

-- words with one space between each two
abbrev pub spaced : List (List ℕ) → List ℕ
spaced words = join_with_byte 32 words

-- the name of a location, where it is there
abbrev pub location_name : Option PlainLocation → List ℕ
location_name None = []
location_name (Some l) = l.name

-- the name of a switch, where it is there
abbrev pub switch_name : Option PlainSwitch → List ℕ
switch_name None = []
switch_name (Some w) = w.name
