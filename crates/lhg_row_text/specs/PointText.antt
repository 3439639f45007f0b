-- How are points and states printed?
use Rattle.std.specs.Prelude.{ℕ, List, [], ◌∷◌, ◌++◌, codes, slice_get}
use Rattle.lhg_math.specs.Number.{Number}
use Rattle.lhg_row.specs.Row.{PlainPoint}
use Rattle.lhg_plant.specs.Plant.{PlainPlant}
use Rattle.lhg_plant.specs.State.{PlainState}
use Rattle.lhg_row_text.specs.PrintedLine.{spaced, location_name}
use Rattle.lhg_row_text.specs.RowText.{number_text}

-- a coordinate: `NAME = NUMBER`
abbrev pub coordinate_text : List ℕ → Number → List ℕ
coordinate_text name x = name ++ (codes " = " ++ number_text x)

-- each coordinate after a comma
abbrev pub next_coordinates : List (List ℕ) → PlainPoint → List ℕ
next_coordinates [] xs = []
next_coordinates (v ∷ vs) [] = []
next_coordinates (v ∷ vs) (x ∷ xs) = codes ", " ++ (coordinate_text v x ++ next_coordinates vs xs)

-- a point: the coordinates in the order of the variables, with a comma and a space between each two
abbrev pub point_text : List (List ℕ) → PlainPoint → List ℕ
point_text [] xs = []
point_text (v ∷ vs) [] = []
point_text (v ∷ vs) (x ∷ xs) = coordinate_text v x ++ next_coordinates vs xs

-- a state: `LOCATION POINT`
abbrev pub state_text : PlainPlant → PlainState → List ℕ
state_text a s = spaced (location_name (slice_get a.locs s.loc) ∷ point_text a.vars s.at ∷ [])
