-- Which states are in a region, and in the guard of a switch?
use Rattle.std.specs.Prelude.{◌≡◌, ℕ, List, [], get_or, slice_get, IsSomeAnd}
use Rattle.lhg_row.specs.Piece.{PlainPiece, InSome}
use Rattle.lhg_plant.specs.Plant.{PlainPlant}
use Rattle.lhg_plant.specs.State.{PlainState, IsState}

-- a list of pieces for each location, in the plant's order
abbrev pub PlainRegion : Type 0
PlainRegion = List (List PlainPiece)

-- the states in some piece of their location
pub record InRegion (a : PlainPlant) (region : PlainRegion) (s : PlainState) : Type 0 where
  pub state : IsState a s
  pub some : InSome (get_or region s.loc []) s.at

-- a list of pieces for each switch, in the plant's order
abbrev pub PlainGuards : Type 0
PlainGuards = List (List PlainPiece)

-- the states of the location that switch e leaves, in some piece of the switch
pub record InGuard (a : PlainPlant) (guards : PlainGuards) (e : ℕ) (s : PlainState) : Type 0 where
  pub state : IsState a s
  pub leaves : IsSomeAnd (slice_get a.switches e) (λ w. w.from ≡ s.loc)
  pub some : InSome (get_or guards e []) s.at

-- the union of all guards
abbrev pub InSomeGuard : PlainPlant → PlainGuards → PlainState → Type 0
InSomeGuard a guards s = (e : ℕ) × InGuard a guards e s
