-- Which records explain the states that they hold?
use Rattle.std.specs.Prelude.{◌≡◌, ℕ, List, length, Contains}
use Rattle.lhg_math.specs.Tests.{AllOf}
use Rattle.lhg_row.specs.Row.{PlainPoint}
use Rattle.lhg_row.specs.Width.{AllWide}
use Rattle.lhg_plant.specs.Plant.{PlainPlant}
use Rattle.lhg_plant.specs.State.{PlainState}
use Rattle.lhg_plant.specs.Explained.{IsExplained}
use Rattle.lhg_plant.specs.Loss.{PlainCause, by_env, by_leave, by_flow, PlainLoss, InLoss}
use Rattle.lhg_plant.specs.Sound.{IsSoundLoss}
use Rattle.lhg_loss.specs.Explanation.{loss_at, explanation}
use Rattle.lhg_loss.specs.StageFacts.{AreCounted}

-- the pieces that a cause names are over n variables
abbrev pub IsWideCause : ℕ → PlainCause → Type 0
IsWideCause n (by_env e into) = AllWide n into
IsWideCause n (by_leave through into) = AllWide n through × AllWide n into
IsWideCause n (by_flow m through) = AllWide n through

-- the piece of a record, and those that its cause names, are over n variables
pub record IsWideLoss (n : ℕ) (loss : PlainLoss) : Type 0 where
  pub piece : AllWide n loss.piece
  pub cause : IsWideCause n loss.cause

-- the records have the numbers from 1 on, are sound, and are over the plant's variables
pub record AreRecords (a : PlainPlant) (losses : List PlainLoss) : Type 0 where
  pub counted : AreCounted losses
  pub sound : (loss : PlainLoss) → Contains losses loss → IsSoundLoss a losses loss
  pub wide : AllOf (IsWideLoss (length a.vars)) losses

-- the record with this number holds the state
pub record IsHeldBy (a : PlainPlant) (losses : List PlainLoss) (m : ℕ) (s : PlainState) : Type 0 where
  pub loss : PlainLoss
  pub listed : Contains losses loss
  pub number : loss.number ≡ m
  pub holds : InLoss a loss s

-- the point in the location of the record with this number
abbrev pub state_in : List PlainLoss → ℕ → PlainPoint → PlainState
state_in losses m x = record { loc = (loss_at losses m).loc; at = x }

-- records explain each state that they hold
abbrev pub ExplainLaw : PlainPlant → List PlainLoss → Type 0
ExplainLaw a losses = AreRecords a losses → (m : ℕ) (s : PlainState) → IsHeldBy a losses m s → IsExplained a s (explanation a losses m s).value
