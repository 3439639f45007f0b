-- What is a state of a plant, when is it safe, and what is a set of states?
use Rattle.std.specs.Prelude.{◌≡◌, ℕ, length, slice_get, IsSomeAnd}
use Rattle.lhg_row.specs.Row.{PlainPoint}
use Rattle.lhg_row.specs.Piece.{InPiece, InSome}
use Rattle.lhg_plant.specs.Plant.{PlainLocation, PlainPlant}

-- a location, by its place in the plant's list, and a point
pub record PlainState : Type 0 where
  pub loc : ℕ
  pub at : PlainPoint

-- a set of states is the question whether a state belongs to it
abbrev pub States : Type 1
States = PlainState → Type 0

-- another point in the location of a state
abbrev pub moved_to : PlainState → PlainPoint → PlainState
moved_to s p = record { loc = s.loc; at = p }

-- the location of the state is there, and the fact holds of it
abbrev pub AtLocation : PlainPlant → PlainState → (PlainLocation → Type 0) → Type 0
AtLocation a s P = IsSomeAnd (slice_get a.locs s.loc) P

-- the point has one coordinate per variable, and all rows of the location's invariant hold there
pub record IsState (a : PlainPlant) (s : PlainState) : Type 0 where
  pub fits : length s.at ≡ length a.vars
  pub inside : AtLocation a s (λ l. InPiece l.inv s.at)

-- a state is safe where all rows of at least one safe line of its location hold
pub record IsSafe (a : PlainPlant) (s : PlainState) : Type 0 where
  pub state : IsState a s
  pub safe : AtLocation a s (λ l. InSome l.safe s.at)
