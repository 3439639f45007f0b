-- What does seeking a state answer: where it stays, where it is lost and why, and why it is not told?
use Rattle.std.specs.Prelude.{◌≡◌, ◌⊎◌, ◌<◌, ◌≤◌, ℕ, Bool, true, List, Some, Contains}
use Rattle.lhg_num.specs.FracArithmetic.{frac_arithmetic}
use Rattle.lhg_num.specs.Marked.{Marked}
use Rattle.lhg_plant.specs.LegalTruths.{state_truth, safe_truth}
use Rattle.lhg_plant.specs.Plant.{PlainPlant}
use Rattle.lhg_plant.specs.State.{PlainState, IsState, IsSafe}
use Rattle.lhg_plant.specs.Round.{InRound, IsRemovedIn, IsLastRound}
use Rattle.lhg_plant.specs.Loss.{PlainLoss}
use Rattle.lhg_plant.specs.Sound.{IsSoundLoss}
use Rattle.lhg_plant.specs.Solution.{InSomeLoss}
use Rattle.lhg_plant.specs.Views.{plain_state}
use Rattle.lhg_loss.specs.Holding.{holding, IsFirstHolding}
use Rattle.lhg_loss.specs.Iterate.{stage, spent, solution}
use Rattle.lhg_loss.specs.LimitFacts.{IsComputed}
use Rattle.lhg_loss.specs.StageFacts.{AreCounted, IsSpent}
use Rattle.lhg_loss.specs.Views.{plain_losses, AllHaveVars}
use Rattle.lhg_iterate.specs.declared.seeking.Sought.{Sought}
use Rattle.lhg_iterate.specs.declared.seeking.Sought.TheVariants.{Outside, Unsafe, Kept, Lost}
use Rattle.lhg_iterate.specs.declared.seeking.SeekStop.{SeekStop}
use Rattle.lhg_iterate.specs.declared.seeking.SeekStop.TheVariants.{State, Stop}
use Rattle.lhg_iterate.specs.declared.stops.Stop.TheVariants as stop
use Rattle.lhg_iterate.specs.SeekWork.{IsUndecided, seek_work}

-- ---- answers
-- a round up to the budget is the first that removes nothing, and the state is still there
pub record IsKept (a : PlainPlant) (budget rounds : ℕ) (z : PlainState) : Type 0 where
  pub within : rounds ≤ budget
  pub last : IsLastRound a rounds
  pub kept : InRound a rounds z

-- the state is removed in a round up to the budget: the records are all those up to this round, numbered from 1 and sound, they hold
-- every state removed so far, and the first one that holds this state has the number m
pub record IsLost (a : PlainPlant) (budget m : ℕ) (losses : List PlainLoss) (z : PlainState) : Type 0 where
  pub round : ℕ
  pub within : round ≤ budget
  pub removed : IsRemovedIn a round z
  pub same : losses ≡ (stage a round).value.losses
  pub first : IsFirstHolding z losses (Some m)
  pub counted : AreCounted losses
  pub rounds : (loss : PlainLoss) → Contains losses loss → loss.round ≤ round
  pub sound : (loss : PlainLoss) → Contains losses loss → IsSoundLoss a losses loss
  pub known : (y : PlainState) (j : ℕ) → j ≤ round → IsRemovedIn a j y → InSomeLoss a losses y

-- what is found of the state within the budget
abbrev pub IsSought : PlainPlant → ℕ → PlainState → Sought → Type 0
IsSought a budget z Outside = ¬ IsState a z
IsSought a budget z Unsafe = IsState a z × ¬ IsSafe a z
IsSought a budget z (Kept rounds) = IsKept a budget rounds z
IsSought a budget z (Lost m losses) = IsLost a budget m (plain_losses losses.items) z

-- the records that are found are over n variables
abbrev pub SoughtVars : ℕ → Sought → Type 0
SoughtVars n Outside = Unit {0}
SoughtVars n Unsafe = Unit {0}
SoughtVars n (Kept rounds) = Unit {0}
SoughtVars n (Lost m losses) = AllHaveVars n losses.items

-- ---- refusals
-- a limit may be answered for round i only where no earlier round decides, and what is formed in its work has the mark
pub record IsSeekStopIn (a : PlainPlant) (budget : ℕ) (z : PlainState) (i : ℕ) (mark : Marked (Unit {0}) → Bool) : Type 0 where
  pub within : i ≤ budget
  pub computed : IsComputed a i
  pub undecided : IsUndecided a i z
  pub marked : mark (seek_work a budget z i) ≡ true

-- whether a record of a round holds the state is not told, where no earlier round decides
pub record IsWideRecord (a : PlainPlant) (budget : ℕ) (z : PlainState) : Type 0 where
  pub round : ℕ
  pub counted : 0 < round
  pub within : round ≤ budget
  pub undecided : IsUndecided a round z
  pub wide : (holding z (stage a round).value.last).wide ≡ true

-- a row of the invariant, of a safe line or of a record is too wide at the state
abbrev pub IsWideState : PlainPlant → ℕ → PlainState → Type 0
IsWideState a budget z = ((state_truth frac_arithmetic a z).wide ≡ true) ⊎ (((safe_truth frac_arithmetic a z).wide ≡ true) ⊎ IsWideRecord a budget z)

-- why it is not told: a number at the state, the limit of a round, or a spent budget, where the state is in its last round
abbrev pub IsSeekStopped : PlainPlant → ℕ → PlainState → SeekStop → Type 0
IsSeekStopped a budget z State = IsWideState a budget z
IsSeekStopped a budget z (Stop (stop.Wide i)) = IsSeekStopIn a budget z i (λ m. m.wide)
IsSeekStopped a budget z (Stop (stop.Rows i)) = IsSeekStopIn a budget z i (λ m. m.rows)
IsSeekStopped a budget z (Stop (stop.Pieces i)) = IsSeekStopIn a budget z i (λ m. m.pieces)
IsSeekStopped a budget z (Stop (stop.Spent s)) = (solution a budget ≡ spent (plain_state s)) × IsSpent a budget (plain_state s) × InRound a budget z
IsSeekStopped a budget z (Stop stop.Memory) = Unit {0}
