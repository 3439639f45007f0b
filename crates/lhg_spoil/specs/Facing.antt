-- What does the plant hold against a move: an escape that it offers, and records that tell of each round up to it?
use Rattle.std.specs.Prelude.{◌≡◌, ℕ, suc, List, Option, Some, slice_get, IsSomeAnd}
use Rattle.lhg_row.specs.Row.{PlainPoint}
use Rattle.lhg_motion.specs.Play.{last_point}
use Rattle.lhg_plant.specs.Escape.{IsEscape}
use Rattle.lhg_plant.specs.Explained.{PlainWay, IsLeft}
use Rattle.lhg_plant.specs.Loss.{PlainLoss}
use Rattle.lhg_plant.specs.OutBack.{Back}
use Rattle.lhg_plant.specs.Plant.{PlainPlant}
use Rattle.lhg_plant.specs.Round.{InRound, IsRemovedIn}
use Rattle.lhg_plant.specs.State.{PlainState, moved_to}
use Rattle.lhg_spoil.specs.Exchange.{SpoilPlace}
use Rattle.lhg_spoil.specs.Known.{AreKnown}
use Rattle.lhg_spoil.specs.Moves.{MayTake}

-- what the plant offers from a state of rank j + 1: an escape from round j past its Back, and how it is left
pub record IsOffer (a : PlainPlant) (j : ℕ) (s : PlainState) (way : PlainWay) : Type 0 where
  pub escape : IsEscape a (InRound a j) (Back a (InRound a j)) s way.moves
  pub left : IsLeft a (InRound a j) (moved_to s (last_point s.at way.moves)) way.last

-- it is offered from a state of this rank, and the records tell of each state removed in a round up to j
pub record IsFaced (a : PlainPlant) (losses : List PlainLoss) (j : ℕ) (s : PlainState) (way : PlainWay) : Type 0 where
  pub removed : IsRemovedIn a (suc j) s
  pub offers : IsOffer a j s way
  pub known : AreKnown a losses j

-- a switch that is answered again leaves the location of the state, and may be taken there
abbrev pub MayRepeat : PlainPlant → SpoilPlace → Type 0
MayRepeat a r = (act : ℕ × Option PlainPoint) → r.again ≡ Some act → IsSomeAnd (slice_get a.switches act.0) (λ w. (w.from ≡ r.state.loc) × MayTake w.side a act.0 r.state act.1)
