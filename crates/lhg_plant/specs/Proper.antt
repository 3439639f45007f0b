-- Which plants may there be: names differ, places are in range, lengths agree, and the limits hold?
use Rattle.std.specs.Prelude.{◌≡◌, ℕ, ◌+◌, ◌<◌, ◌≤◌, length, map, true}
use Rattle.lhg_row.specs.Piece.{PlainPiece}
use Rattle.lhg_math.specs.Tests.{AllOf}
use Rattle.lhg_row.specs.Width.{AllWide}
use Rattle.lhg_plant.specs.Differ.{all_differ}
use Rattle.lhg_plant.specs.Limits.{most_variables, most_locations, most_switches, most_safe_lines, most_line_rows}
use Rattle.lhg_plant.specs.Plant.{PlainLocation, PlainSwitch, PlainPlant}
use Rattle.lhg_plant.specs.Word.{IsName}

-- the rows of one line have n coefficients each, and are not too many
pub record IsLine (n : ℕ) (rows : PlainPiece) : Type 0 where
  pub wide : AllWide n rows
  pub few : length rows ≤ most_line_rows

-- a location over n variables
pub record IsLocation (n : ℕ) (l : PlainLocation) : Type 0 where
  pub name : IsName l.name
  pub inv : IsLine n l.inv
  pub flow : IsLine n l.flow
  pub safe : AllOf (IsLine n) l.safe
  pub few_safe : length l.safe ≤ most_safe_lines

-- a switch over n variables between some of m locations
pub record IsSwitch (n m : ℕ) (s : PlainSwitch) : Type 0 where
  pub name : IsName s.name
  pub from : s.from < m
  pub to : s.to < m
  pub jump : IsLine (n + n) s.jump

-- a plant
pub record IsProper (p : PlainPlant) : Type 0 where
  pub vars : AllOf IsName p.vars
  pub some_vars : 0 < length p.vars
  pub few_vars : length p.vars ≤ most_variables
  pub vars_differ : all_differ p.vars ≡ true
  pub locs : AllOf (IsLocation (length p.vars)) p.locs
  pub some_locs : 0 < length p.locs
  pub few_locs : length p.locs ≤ most_locations
  pub locs_differ : all_differ (map (λ l. l.name) p.locs) ≡ true
  pub switches : AllOf (IsSwitch (length p.vars) (length p.locs)) p.switches
  pub few_switches : length p.switches ≤ most_switches
  pub switches_differ : all_differ (map (λ s. s.name) p.switches) ≡ true
