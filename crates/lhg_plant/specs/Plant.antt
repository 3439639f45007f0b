-- What is a plant: a linear hybrid automaton with controllable and uncontrollable switches?
use Rattle.std.specs.Prelude.{ℕ, List}
use Rattle.lhg_row.specs.Piece.{PlainPiece}
use Rattle.lhg_plant.specs.declared.plants.Side.{Side}

-- one location: its name, its invariant, its flow set (rows over the derivatives), and its safe lines
pub record PlainLocation : Type 0 where
  pub name : List ℕ
  pub inv : PlainPiece
  pub flow : PlainPiece
  pub safe : List PlainPiece

-- one switch, between two locations given by their places in the list; jump rows are over the old values and then the new
pub record PlainSwitch : Type 0 where
  pub name : List ℕ
  pub from : ℕ
  pub to : ℕ
  pub side : Side
  pub jump : PlainPiece

-- the names of the variables, the locations, and the switches
pub record PlainPlant : Type 0 where
  pub vars : List (List ℕ)
  pub locs : List PlainLocation
  pub switches : List PlainSwitch
