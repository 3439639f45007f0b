-- Which flows, switches and plays are legal?
use Rattle.std.specs.Prelude.{◌≡◌, ℕ, List, ◌++◌, Some, slice_get, IsSomeAnd}
use Rattle.lhg_math.specs.Number.{Number}
use Rattle.lhg_row.specs.Row.{PlainPoint}
use Rattle.lhg_row.specs.Piece.{InPiece}
use Rattle.lhg_motion.specs.Flow.{IsFlow}
use Rattle.lhg_motion.specs.Play.{PlainMove, IsPlay}
use Rattle.lhg_plant.specs.declared.plants.Side.{Side}
use Rattle.lhg_plant.specs.Plant.{PlainPlant, PlainSwitch}
use Rattle.lhg_plant.specs.State.{PlainState, IsState, AtLocation}

-- a legal flow from the state to the point y in the time t
pub record LegalFlow (a : PlainPlant) (s : PlainState) (t : Number) (y : PlainPoint) : Type 0 where
  pub start : IsState a s
  pub flow : AtLocation a s (λ l. IsFlow l.inv l.flow s.at t y)

-- switch e, by its place in the plant's list, leads from the state s to its result z:
-- it goes from the location of s to that of z, and its jump rows hold at the two points
pub record LegalSwitch (a : PlainPlant) (e : ℕ) (s z : PlainState) : Type 0 where
  pub switch : PlainSwitch
  pub is_there : slice_get a.switches e ≡ Some switch
  pub leaves : switch.from ≡ s.loc
  pub enters : switch.to ≡ z.loc
  pub start : IsState a s
  pub result : IsState a z
  pub jump : InPiece switch.jump (s.at ++ z.at)

-- switch e leads from the state to the point y of the location that it enters
abbrev pub LegalSwitchTo : PlainPlant → ℕ → PlainState → PlainPoint → Type 0
LegalSwitchTo a e s y = (m : ℕ) × LegalSwitch a e s (record { loc = m; at = y })

-- switch e is there and belongs to this side
abbrev pub HasSide : PlainPlant → ℕ → Side → Type 0
HasSide a e side = IsSomeAnd (slice_get a.switches e) (λ w. w.side ≡ side)

-- a play from the state, in its location
pub record IsPlayFrom (a : PlainPlant) (s : PlainState) (moves : List PlainMove) : Type 0 where
  pub start : IsState a s
  pub play : AtLocation a s (λ l. IsPlay l.inv l.flow s.at moves)
