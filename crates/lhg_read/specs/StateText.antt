-- Which line is a state, and which state does it say?
use Rattle.std.specs.Prelude.{◌≡◌, ℕ, if◌then◌else◌, List, [], ◌∷◌, Option, Some, None, codes}
use Rattle.std.specs.Option.{option_and_then, option_map}
use Rattle.lhg_lex.specs.PlainToken.{PlainToken}
use Rattle.lhg_lex.specs.LineTokens.{Spot}
use Rattle.lhg_plant.specs.Plant.{PlainPlant}
use Rattle.lhg_plant.specs.State.{PlainState}
use Rattle.lhg_read.specs.Names.{name_of}
use Rattle.lhg_read.specs.PlantSteps.{loc_names}
use Rattle.lhg_read.specs.PlantText.{said_in}
use Rattle.lhg_read.specs.PointText.{point_of}
use Rattle.lhg_read.specs.Signs.{is_word}
use Rattle.lhg_read.specs.Term.{place_of}
use Rattle.lhg_read.specs.TokenText.{IsTextBy}

-- the place of the location that a token names
abbrev pub location_in : PlainPlant → PlainToken → Option ℕ
location_in p token = option_and_then (λ name. place_of name (loc_names p.locs)) (name_of token)

-- LOCATION POINT
abbrev pub state_of : PlainPlant → List PlainToken → Option PlainState
state_of p [] = None
state_of p (name ∷ point) = option_and_then (λ loc. option_map (λ at. record { loc = loc; at = at }) (point_of p.vars point)) (location_in p name)

-- the line `WORD LOCATION POINT`
unfoldable pub state_by : List ℕ → PlainPlant → List PlainToken → Option PlainState
state_by w p [] = None
state_by w p (first ∷ tokens) = if is_word w first then state_of p tokens else None

-- the line `state LOCATION POINT`
abbrev pub state_line : PlainPlant → List PlainToken → Option PlainState
state_line p tokens = state_by (codes "state") p tokens

-- lines with these tokens are a state of the plant: one line
pub record IsStateText (p : PlainPlant) (lines : List (List Spot)) (s : PlainState) : Type 0 where
  pub line : List Spot
  pub lines_are : lines ≡ line ∷ []
  pub says : state_line p (said_in line) ≡ Some s

-- the lines of a text are a state of the plant
abbrev pub IsStateLines : PlainPlant → List (List ℕ) → PlainState → Type 0
IsStateLines p lines s = IsTextBy (λ tokens. IsStateText p tokens s) lines

-- the tokens of lines are some state of the plant
abbrev pub IsSomeState : PlainPlant → List (List Spot) → Type 0
IsSomeState p tokens = (s : PlainState) × IsStateText p tokens s
