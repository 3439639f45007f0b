-- What do exchanges come to, and why do they stop?
use Rattle.std.specs.Prelude.{◌≡◌, ◌≤◌, ℕ, suc, Bool, true, List, None, slice_get}
use Rattle.lhg_num.specs.declared.refusals.Halt.{Halt}
use Rattle.lhg_num.specs.declared.refusals.Halt.TheVariants as halt
use Rattle.lhg_num.specs.Marked.{Marked}
use Rattle.lhg_plant.specs.Loss.{PlainLoss}
use Rattle.lhg_plant.specs.Plant.{PlainPlant}
use Rattle.lhg_plant.specs.Rank.{HasRank}
use Rattle.lhg_plant.specs.Round.{IsRemovedIn}
use Rattle.lhg_plant.specs.SpoilSteps.{PlainSpoilStep, AreLegalFrom, RanksFall}
use Rattle.lhg_plant.specs.State.{PlainState}
use Rattle.lhg_plant.specs.Views.{plain_state}
use Rattle.lhg_play.specs.Views.{plain_spoil_steps}
use Rattle.lhg_spoil.specs.declared.stops.SpoilStop.{SpoilStop}
use Rattle.lhg_spoil.specs.declared.stops.SpoilStop.TheVariants.{Illegal, Wide, Rows, Pieces, Memory}
use Rattle.lhg_spoil.specs.declared.stops.Spoiled.{Spoiled}
use Rattle.lhg_spoil.specs.Exchange.{SpoilPlace, stands_at}
use Rattle.lhg_spoil.specs.Exchanges.{ReachesFrom, Spoils, IsFirstIllegal}
use Rattle.lhg_spoil.specs.Known.{AreKnown}
use Rattle.lhg_spoil.specs.Moves.{PlainCtlMove}
use Rattle.lhg_spoil.specs.Work.{IsExchangeWork}

-- the start was removed in a round up to a number, and the records tell of each state removed in a round up to that of the start
pub record IsLostStart (a : PlainPlant) (losses : List PlainLoss) (upto : ℕ) (start : PlainState) : Type 0 where
  pub before : ℕ
  pub within : suc before ≤ upto
  pub removed : IsRemovedIn a (suc before) start
  pub known : AreKnown a losses (suc before)

-- the plant wins from the start: an unsafe state is last, by legal steps, in at most as many exchanges as the start's rank, and the ranks from which they begin fall
pub record IsWon (a : PlainPlant) (start : PlainState) (n : ℕ) (trace : List PlainSpoilStep) (last : PlainState) : Type 0 where
  pub before : ℕ
  pub removed : IsRemovedIn a (suc before) start
  pub few : n ≤ suc before
  pub legal : AreLegalFrom a start None trace last
  pub falls : RanksFall (suc (suc before)) trace
  pub unsafe : HasRank a 0 last

-- the exchanges of the moves, by which the plant wins
pub record IsSpoiled (a : PlainPlant) (losses : List PlainLoss) (start : PlainState) (moves : List PlainCtlMove) (r : Spoiled) : Type 0 where
  pub spoils : Spoils a losses start moves r.exchanges (plain_spoil_steps r.steps.items) (plain_state r.last)
  pub won : IsWon a start r.exchanges (plain_spoil_steps r.steps.items) (plain_state r.last)

-- the move with this number is the first that is not legal at its turn, and the steps before it are legal
pub record IsStoppedBefore (a : PlainPlant) (losses : List PlainLoss) (start : PlainState) (moves : List PlainCtlMove) (number : ℕ) (steps : List PlainSpoilStep) : Type 0 where
  pub first : IsFirstIllegal a losses start moves number steps
  pub last : PlainState
  pub legal : AreLegalFrom a start None steps last

-- something that is formed in the exchange with this number, counted from 1, has the mark
pub record IsMarkedIn (a : PlainPlant) (losses : List PlainLoss) (start : PlainState) (moves : List PlainCtlMove) (number : ℕ) (mark : Marked (Unit {0}) → Bool) : Type 0 where
  pub before : ℕ
  pub counted : number ≡ suc before
  pub trace : List PlainSpoilStep
  pub answered : ℕ
  pub place : SpoilPlace
  pub reached : ReachesFrom a losses moves before 0 (stands_at start) trace answered place
  pub round : ℕ
  pub removed : IsRemovedIn a (suc round) place.state
  pub work : Marked (Unit {0})
  pub formed : IsExchangeWork a losses round place (slice_get moves answered) work
  pub marked : mark work ≡ true

-- why exchanges stop: at the first move that is not legal, with the steps before it; for a limit in the work of an exchange; or for want of memory
abbrev pub IsSpoilStop : PlainPlant → List PlainLoss → PlainState → List PlainCtlMove → SpoilStop → Type 0
IsSpoilStop a losses start moves (Illegal number steps) = IsStoppedBefore a losses start moves number (plain_spoil_steps steps.items)
IsSpoilStop a losses start moves (Wide number) = IsMarkedIn a losses start moves number (λ m. m.wide)
IsSpoilStop a losses start moves (Rows number) = IsMarkedIn a losses start moves number (λ m. m.rows)
IsSpoilStop a losses start moves (Pieces number) = IsMarkedIn a losses start moves number (λ m. m.pieces)
IsSpoilStop a losses start moves Memory = Unit {0}

-- a halt in the exchange with this number
abbrev pub stop_of : Halt → ℕ → SpoilStop
stop_of halt.Wide n = Wide n
stop_of halt.Rows n = Rows n
stop_of halt.Pieces n = Pieces n
stop_of halt.Memory n = Memory
