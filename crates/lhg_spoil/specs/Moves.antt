-- Which moves may the controller make against a play of the plant, and which of them are legal?
use Rattle.std.specs.Prelude.{◌≡◌, ◌<◌, ◌≤◌, ℕ, ◌-◌, false, true, List, length, Option, Some, None, slice_get, IsSomeAnd}
use Rattle.lhg_math.specs.Number.{Number, lt, nought, unit}
use Rattle.lhg_row.specs.Row.{PlainPoint}
use Rattle.lhg_motion.specs.Play.{PlainMove, point_of}
use Rattle.lhg_plant.specs.declared.plants.Side.{Side}
use Rattle.lhg_plant.specs.declared.plants.Side.TheVariants.{Ctl, Env, Pick}
use Rattle.lhg_plant.specs.Plant.{PlainPlant}
use Rattle.lhg_plant.specs.State.{PlainState, moved_to}
use Rattle.lhg_plant.specs.Legal.{LegalSwitch}
use Rattle.lhg_plant.specs.Choice.{result_at}

-- a move: to wait, or to take a switch at a place of a flow, flows counted from 1, with a named result or without one
pub data PlainCtlMove : Type 0 where
  waits : PlainCtlMove
  acts : (flow : ℕ) → (place : Number) → (switch : ℕ) → (to : Option PlainPoint) → PlainCtlMove

-- the state at the place q of flow k of a play from the state s, flows counted from 1
abbrev pub state_on : PlainState → List PlainMove → ℕ → Number → PlainState
state_on s moves k q = moved_to s (point_of s.at moves (k - 1) q)

-- the controller may take switch e, of this side, at the state: one whose result the plant picks where no result is named and it has
-- a legal one, and one whose result the controller picks where it leads legally to the named one; an uncontrollable one never
abbrev pub MayTake : Side → PlainPlant → ℕ → PlainState → Option PlainPoint → Type 0
MayTake Ctl a e s to = (to ≡ None) × ((z : PlainState) × LegalSwitch a e s z)
MayTake Env a e s to = ⊥
MayTake Pick a e s to = (y : PlainPoint) × (to ≡ Some y) × LegalSwitch a e s (result_at a e y)

-- the controller may act at the place q of flow k of the play: the place is there and is not the flow's end, and the switch leaves
-- the location and may be taken at the state there
pub record IsLegalAct (a : PlainPlant) (s : PlainState) (moves : List PlainMove) (k : ℕ) (q : Number) (e : ℕ) (to : Option PlainPoint) : Type 0 where
  pub counted : 0 < k
  pub within : k ≤ length moves
  pub from_start : lt q nought ≡ false
  pub before_end : lt q unit ≡ true
  pub takes : IsSomeAnd (slice_get a.switches e) (λ w. (w.from ≡ s.loc) × MayTake w.side a e (state_on s moves k q) to)

-- the move is legal against the play
abbrev pub IsLegalMove : PlainPlant → PlainState → List PlainMove → PlainCtlMove → Type 0
IsLegalMove a s moves waits = Unit {0}
IsLegalMove a s moves (acts k q e to) = IsLegalAct a s moves k q e to
