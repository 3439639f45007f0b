-- Where do exchanges stand, and what does one more come to?
use Rattle.std.specs.Prelude.{◌≡◌, ◌≤◌, ℕ, suc, Bool, true, false, List, [], ◌∷◌, ◌++◌, Option, Some, None, slice_get}
use Rattle.lhg_num.specs.Marked.{Marked}
use Rattle.lhg_plant.specs.Explained.{IsExplained}
use Rattle.lhg_plant.specs.Loss.{PlainLoss}
use Rattle.lhg_plant.specs.Plant.{PlainPlant}
use Rattle.lhg_plant.specs.Round.{IsRemovedIn}
use Rattle.lhg_plant.specs.SpoilSteps.{PlainSpoilStep, ranked}
use Rattle.lhg_plant.specs.State.{PlainState, IsSafe}
use Rattle.lhg_plant.specs.Views.{plain_state}
use Rattle.lhg_play.specs.Views.{plain_spoil_steps}
use Rattle.lhg_spoil.specs.declared.exchanges.Stand.{Stand}
use Rattle.lhg_spoil.specs.declared.answers.Answer.{Answer}
use Rattle.lhg_spoil.specs.declared.exchanges.Step.{Step}
use Rattle.lhg_spoil.specs.declared.exchanges.Step.TheVariants.{Answered, Stuck}
use Rattle.lhg_spoil.specs.declared.exchanges.Turn.{Turn}
use Rattle.lhg_spoil.specs.declared.exchanges.Turn.TheVariants.{On, Ended, Illegal}
use Rattle.lhg_spoil.specs.Exchange.{offer, SpoilPlace, answered_after, IsExchange}
use Rattle.lhg_spoil.specs.Exchanges.{IsIllegalAt}
use Rattle.lhg_spoil.specs.Facing.{MayRepeat}
use Rattle.lhg_spoil.specs.Known.{AreKnown}
use Rattle.lhg_spoil.specs.Moves.{PlainCtlMove}
use Rattle.lhg_spoil.specs.Views.{end_place, plain_answer}
use Rattle.lhg_spoil.specs.Work.{IsExchangeWork}

-- the state was removed in a round up to a number
pub record IsLostUpto (a : PlainPlant) (upto : ℕ) (s : PlainState) : Type 0 where
  pub before : ℕ
  pub within : suc before ≤ upto
  pub removed : IsRemovedIn a (suc before) s

-- the place at which exchanges stand
abbrev pub stand_place : Stand → SpoilPlace
stand_place r = end_place r.state r.again

-- what is known of a stand as plain data: the steps so far, the place, and how many moves of the list are answered
pub record PlainStand : Type 0 where
  pub steps : List PlainSpoilStep
  pub place : SpoilPlace
  pub answered : ℕ

abbrev pub plain_stand : Stand → PlainStand
plain_stand r = record { steps = plain_spoil_steps r.steps.items; place = stand_place r; answered = r.answered }

-- the stand after an answer
abbrev pub stand_after : PlainStand → List PlainSpoilStep × SpoilPlace → PlainStand
stand_after r answer = record { steps = r.steps ++ answer.0; place = answer.1; answered = answered_after r.place.again r.answered }

-- the stand with the rank from which an exchange begins behind its steps
abbrev pub stand_ranked : PlainStand → ℕ → PlainStand
stand_ranked r round = record { steps = r.steps ++ ranked round ∷ []; place = r.place; answered = r.answered }

-- a reply as plain data, where there is one
abbrev pub plain_reply : Option Answer → Option (List PlainSpoilStep × SpoilPlace)
plain_reply None = None
plain_reply (Some answer) = Some (plain_answer answer)

-- the stand after the rank and a reply, and whether there was one
abbrev pub step_after : PlainStand → ℕ → Option (List PlainSpoilStep × SpoilPlace) → PlainStand × Bool
step_after r round None = (stand_ranked r round, false)
step_after r round (Some answer) = (stand_after (stand_ranked r round) answer, true)

abbrev pub plain_step_to : Step → PlainStand × Bool
plain_step_to (Answered new) = (plain_stand new, true)
plain_step_to (Stuck new) = (plain_stand new, false)

-- they stand at a state removed in a round up to a number; the records tell of each round before it, and what is answered again may be taken
pub record IsStanding (a : PlainPlant) (losses : List PlainLoss) (upto : ℕ) (r : Stand) : Type 0 where
  pub lost : IsLostUpto a upto (plain_state r.state)
  pub known : AreKnown a losses lost.before
  pub repeats : MayRepeat a (stand_place r)

-- one more exchange leads from one stand to the other; or the next move of the list is not legal, and the rank is put behind the steps
pub record IsOn (a : PlainPlant) (losses : List PlainLoss) (moves : List PlainCtlMove) (old new : Stand) : Type 0 where
  pub before : ℕ
  pub steps : List PlainSpoilStep
  pub explained : IsExplained a (plain_state old.state) (offer a losses (plain_state old.state)).value
  pub exchange : IsExchange a losses before (stand_place old) (slice_get moves old.answered) steps (stand_place new)
  pub does : plain_spoil_steps new.steps.items ≡ plain_spoil_steps old.steps.items ++ steps
  pub answered : new.answered ≡ answered_after (stand_place old).again old.answered
  pub repeats : MayRepeat a (stand_place new)

pub record IsStuck (a : PlainPlant) (losses : List PlainLoss) (moves : List PlainCtlMove) (old new : Stand) : Type 0 where
  pub before : ℕ
  pub illegal : IsIllegalAt a losses moves before old.answered (stand_place old)
  pub does : plain_spoil_steps new.steps.items ≡ plain_spoil_steps old.steps.items ++ ranked (suc before) ∷ []
  pub answered : new.answered ≡ old.answered

-- what an exchange comes to
abbrev pub IsStep : PlainPlant → List PlainLoss → List PlainCtlMove → Stand → Step → Type 0
IsStep a losses moves old (Answered new) = IsOn a losses moves old new
IsStep a losses moves old (Stuck new) = IsStuck a losses moves old new

-- what a turn comes to
abbrev pub IsTurn : PlainPlant → List PlainLoss → List PlainCtlMove → Stand → Turn → Type 0
IsTurn a losses moves old (On new) = IsOn a losses moves old new × IsSafe a (plain_state new.state)
IsTurn a losses moves old (Ended new) = IsOn a losses moves old new × ¬ IsSafe a (plain_state new.state)
IsTurn a losses moves old (Illegal new) = IsStuck a losses moves old new

-- something that is formed in the exchange from here
abbrev pub IsStandWork : PlainPlant → List PlainLoss → List PlainCtlMove → Stand → Marked (Unit {0}) → Type 0
IsStandWork a losses moves old m = (j : ℕ) × IsRemovedIn a (suc j) (plain_state old.state) × IsExchangeWork a losses j (stand_place old) (slice_get moves old.answered) m
