-- When is a play, with a last switch or none, an explanation of why a state was lost?
use Rattle.std.specs.Prelude.{◌≡◌, ◌<◌, ℕ, suc, List, length, Option, Some, None}
use Rattle.lhg_math.specs.Tests.{AllOf}
use Rattle.lhg_motion.specs.Play.{PlainMove, last_point}
use Rattle.lhg_plant.specs.declared.plants.Side.TheVariants.{Env}
use Rattle.lhg_plant.specs.Plant.{PlainPlant}
use Rattle.lhg_plant.specs.State.{PlainState, States, IsState, moved_to}
use Rattle.lhg_plant.specs.Legal.{LegalSwitch, HasSide}
use Rattle.lhg_plant.specs.OutBack.{Back}
use Rattle.lhg_plant.specs.Escape.{IsEscape}
use Rattle.lhg_plant.specs.Round.{InRound, IsRemovedIn}

-- the flows of a play, and the switch by which its last point is left, with its result, where there is one
pub record PlainWay : Type 0 where
  pub moves : List PlainMove
  pub last : Option (ℕ × PlainState)

-- a play from a state, the switch by which its last point is left, and the round in which the state was removed
pub record PlainEscape : Type 0 where
  pub round : ℕ
  pub start : PlainState
  pub way : PlainWay

-- without a last switch the state is not in the set; with one it is uncontrollable, and leads from the state to one that is not in the set
abbrev pub IsLeft : PlainPlant → States → PlainState → Option (ℕ × PlainState) → Type 0
IsLeft a S s None = IsState a s × ¬ S s
IsLeft a S s (Some last) = HasSide a last.0 Env × LegalSwitch a last.0 s last.1 × ¬ S last.1

-- the play starts at the state, and is an escape from the round before the one in which the state was removed, past its Back; and it is left as its last switch says
pub record IsExplained (a : PlainPlant) (s : PlainState) (e : PlainEscape) : Type 0 where
  pub starts : e.start ≡ s
  pub removed : IsRemovedIn a e.round s
  pub before : ℕ
  pub number : e.round ≡ suc before
  pub escape : IsEscape a (InRound a before) (Back a (InRound a before)) s e.way.moves
  pub left : IsLeft a (InRound a before) (moved_to s (last_point s.at e.way.moves)) e.way.last

-- the last switch and the location of its result are there, and the result has one coordinate per variable
abbrev pub IsPlacedLast : PlainPlant → Option (ℕ × PlainState) → Type 0
IsPlacedLast a None = Unit {0}
IsPlacedLast a (Some last) = (last.0 < length a.switches) × (last.1.loc < length a.locs) × (length last.1.at ≡ length a.vars)

-- each point of the way has one coordinate per variable, and its last switch is placed
pub record FitsPlant (a : PlainPlant) (way : PlainWay) : Type 0 where
  pub moves : AllOf (λ m. length m.to ≡ length a.vars) way.moves
  pub last : IsPlacedLast a way.last
