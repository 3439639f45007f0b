-- Names in lists, in which a name is sought in one list alone.
use Rattle.std.specs.Prelude.{◌≡◌, ℕ, ◌+◌, ◌*◌, ◌%◌, List, [], ◌∷◌, length, map, get_or}
use Rattle.std.specs.Global.{Vec}
use Rattle.lhg_plant.specs.Differ.{is_among}

-- how many lists there are
abbrev pub list_count : ℕ
list_count = 1024

-- the list of a name whose last bytes these are, where the bytes before them say the place
abbrev pub list_from : ℕ → List ℕ → ℕ
list_from place [] = place
list_from place (b ∷ bytes) = list_from ((place * 31 + b) % list_count) bytes

-- the list of a name
abbrev pub list_of : List ℕ → ℕ
list_of name = list_from 0 name

-- the names, list by list
abbrev pub lists_in : List (Vec (List ℕ)) → List (List (List ℕ))
lists_in lists = map (λ names. names.items) lists

-- a name is among these names exactly where it is in its list
pub record AreListed (lists : List (List (List ℕ))) (names : List (List ℕ)) : Type 0 where
  pub many : length lists ≡ list_count
  pub each : (name : List ℕ) → is_among name (get_or lists (list_of name) []) ≡ is_among name names
