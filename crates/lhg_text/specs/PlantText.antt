-- How is a plant printed?
use Rattle.std.specs.Prelude.{ℕ, List, [], ◌∷◌, ◌++◌, codes, map, Option, Some, None, slice_get}
use Rattle.std.specs.List.{flat_map, join_with_byte}
use Rattle.lhg_row.specs.Piece.{PlainPiece}
use Rattle.lhg_plant.specs.declared.plants.Side.{Side}
use Rattle.lhg_plant.specs.declared.plants.Side.TheVariants.{Ctl, Env, Pick}
use Rattle.lhg_plant.specs.Plant.{PlainLocation, PlainSwitch, PlainPlant}
use Rattle.lhg_row_text.specs.PrintedLine.{line, spaced, location_name}
use Rattle.lhg_row_text.specs.RowText.{rows_text, jump_names}

-- who takes a switch
abbrev pub side_text : Side → List ℕ
side_text Ctl = codes "ctl"
side_text Env = codes "env"
side_text Pick = codes "pick"

-- the line of one list of safe states
abbrev pub safe_line : List (List ℕ) → PlainPiece → List ℕ
safe_line vars rows = spaced (codes "safe" ∷ rows_text vars rows ∷ [])

-- the lines of a location, in order
abbrev pub location_lines : List (List ℕ) → PlainLocation → List (List ℕ)
location_lines vars l =
    spaced (codes "loc" ∷ l.name ∷ [])
    ∷ spaced (codes "inv" ∷ rows_text vars l.inv ∷ [])
    ∷ spaced (codes "flow" ∷ rows_text vars l.flow ∷ [])
    ∷ map (safe_line vars) l.safe

-- the line of a switch; the new variables come after the old ones, with `'`
abbrev pub switch_line : List (List ℕ) → List PlainLocation → PlainSwitch → List ℕ
switch_line vars locs s =
    spaced (codes "switch" ∷ s.name ∷ side_text s.side ∷ location_name (slice_get locs s.from) ∷ location_name (slice_get locs s.to) ∷ rows_text (jump_names vars) s.jump ∷ [])

-- the lines of a plant: the head, the variables, the locations, the switches, and the end
abbrev pub plant_lines : PlainPlant → List (List ℕ)
plant_lines a =
    codes "lhg 1" ∷ spaced (codes "vars" ∷ a.vars) ∷ (flat_map (location_lines a.vars) a.locs ++ (map (switch_line a.vars a.locs) a.switches ++ codes "end" ∷ []))

-- each line ends with a line feed
abbrev pub plant_text : PlainPlant → List ℕ
plant_text a = flat_map line (plant_lines a)
