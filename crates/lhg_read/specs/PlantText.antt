-- Which lines are a plant, and which plant do they say?
use Rattle.std.specs.Prelude.{◌≡◌, ℕ, ◌+◌, ◌<◌, ◌≤◌, length, true, List, [], ◌∷◌, ◌++◌, map, Option, Some, codes}
use Rattle.std.specs.List.{flat_map}
use Rattle.std.specs.Option.{option_and_then, option_map}
use Rattle.lhg_math.specs.Number.{unit}
use Rattle.lhg_row.specs.Piece.{PlainPiece}
use Rattle.lhg_math.specs.Tests.{AllOf}
use Rattle.lhg_lex.specs.PlainToken.{PlainToken, word, number}
use Rattle.lhg_lex.specs.LineTokens.{Spot}
use Rattle.lhg_plant.specs.Differ.{all_differ}
use Rattle.lhg_plant.specs.Limits.{most_safe_lines, most_locations, most_switches}
use Rattle.lhg_plant.specs.Plant.{PlainLocation, PlainSwitch, PlainPlant}
use Rattle.lhg_plant.specs.Still.{still_rows}
use Rattle.lhg_read.specs.Names.{vars_of}
use Rattle.lhg_read.specs.PlantLine.{BlockLine, inv, flow, safe, WrittenSwitch, PlantLine, loc, block, switch, end, line_of}
use Rattle.lhg_read.specs.Term.{place_of}
use Rattle.lhg_read.specs.TokenText.{IsTextBy}

-- ---- the parts of a text

-- a location as it is written: its name, and its further lines in any order
pub record Block : Type 0 where
  pub name : List ℕ
  pub lines : List BlockLine

-- the rows of its `inv` lines
abbrev pub invs_of : List BlockLine → List PlainPiece
invs_of [] = []
invs_of (inv rows ∷ lines) = rows ∷ invs_of lines
invs_of (flow rows ∷ lines) = invs_of lines
invs_of (safe rows ∷ lines) = invs_of lines

-- the rows of its `flow` lines
abbrev pub flows_of : List BlockLine → List PlainPiece
flows_of [] = []
flows_of (inv rows ∷ lines) = flows_of lines
flows_of (flow rows ∷ lines) = rows ∷ flows_of lines
flows_of (safe rows ∷ lines) = flows_of lines

-- the rows of its `safe` lines
abbrev pub safes_of : List BlockLine → List PlainPiece
safes_of [] = []
safes_of (inv rows ∷ lines) = safes_of lines
safes_of (flow rows ∷ lines) = safes_of lines
safes_of (safe rows ∷ lines) = rows ∷ safes_of lines

-- at most one `inv` line, at most one `flow` line, and not too many `safe` lines
pub record IsBlock (b : Block) : Type 0 where
  pub one_inv : length (invs_of b.lines) ≤ 1
  pub one_flow : length (flows_of b.lines) ≤ 1
  pub few_safe : length (safes_of b.lines) ≤ most_safe_lines

-- the rows of the one line, and these where there is none
abbrev pub rows_or : PlainPiece → List PlainPiece → PlainPiece
rows_or none [] = none
rows_or none (rows ∷ more) = rows

-- the location over n variables: without an `inv` line the invariant has no rows, without a `flow` line the flow is `still`
abbrev pub location_of : ℕ → Block → PlainLocation
location_of n b = record { name = b.name; inv = rows_or [] (invs_of b.lines); flow = rows_or (still_rows n) (flows_of b.lines); safe = safes_of b.lines }

-- the switch, where FROM and TO are names of locations
abbrev pub switch_at : List (List ℕ) → WrittenSwitch → Option PlainSwitch
switch_at locs s =
    option_and_then (λ from. option_map (λ to. record { name = s.name; from = from; to = to; side = s.side; jump = s.jump }) (place_of s.to locs)) (place_of s.from locs)

-- ---- the text

-- the lines of a block
abbrev pub block_lines : Block → List PlantLine
block_lines b = loc b.name ∷ map (λ line. block line) b.lines

-- the lines behind that of the variables: the blocks, the switches, and the end
abbrev pub plant_lines : List Block → List WrittenSwitch → List PlantLine
plant_lines blocks switches = flat_map block_lines blocks ++ (map (λ s. switch s) switches ++ end ∷ [])

-- what the tokens of a line say
abbrev pub said_in : List Spot → List PlainToken
said_in line = map (λ spot. spot.says) line

-- the word and `1`, where the number is that one digit
pub record IsHeadOf (w : List ℕ) (line : List Spot) : Type 0 where
  pub from : ℕ
  pub to : ℕ
  pub at : ℕ
  pub is : line ≡ record { says = word w; from = from; to = to } ∷ record { says = number unit; from = at; to = at + 1 } ∷ []

-- `lhg 1`
abbrev pub IsHead : List Spot → Type 0
IsHead line = IsHeadOf (codes "lhg") line

-- lines with these tokens are a plant: the head, the variables, the blocks, the switches and the end
pub record IsPlant (lines : List (List Spot)) (p : PlainPlant) : Type 0 where
  pub head : List Spot
  pub vars : List Spot
  pub rest : List (List Spot)
  pub blocks : List Block
  pub switches : List WrittenSwitch
  pub lines_are : lines ≡ head ∷ vars ∷ rest
  pub head_is : IsHead head
  pub vars_are : vars_of (said_in vars) ≡ Some p.vars
  pub rest_are : map (λ line. line_of p.vars (said_in line)) rest ≡ map (λ line. Some line) (plant_lines blocks switches)
  -- the locations, one or more and not too many, with different names
  pub each_block : AllOf IsBlock blocks
  pub locs_are : p.locs ≡ map (location_of (length p.vars)) blocks
  pub some_locs : 0 < length blocks
  pub few_locs : length blocks ≤ most_locations
  pub locs_differ : all_differ (map (λ b. b.name) blocks) ≡ true
  -- the switches, not too many, with different names
  pub switches_are : map (switch_at (map (λ b. b.name) blocks)) switches ≡ map (λ s. Some s) p.switches
  pub few_switches : length switches ≤ most_switches
  pub switches_differ : all_differ (map (λ s. s.name) switches) ≡ true

-- the lines of a text are a plant
abbrev pub IsPlantText : List (List ℕ) → PlainPlant → Type 0
IsPlantText lines p = IsTextBy (λ tokens. IsPlant tokens p) lines

-- the tokens of lines are some plant
abbrev pub IsSomePlant : List (List Spot) → Type 0
IsSomePlant tokens = (p : PlainPlant) × IsPlant tokens p

-- the lines are the text of some plant
abbrev pub IsSomePlantText : List (List ℕ) → Type 0
IsSomePlantText lines = IsTextBy IsSomePlant lines
