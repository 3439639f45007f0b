-- What has to be known of records, so that they tell of each lost state how the plant wins it?
use Rattle.std.specs.Prelude.{◌≡◌, ◌≤◌, ℕ, List, length, Contains}
use Rattle.lhg_plant.specs.Loss.{PlainLoss}
use Rattle.lhg_plant.specs.Plant.{PlainPlant}
use Rattle.lhg_plant.specs.Round.{IsRemovedIn}
use Rattle.lhg_plant.specs.Solution.{InSomeLoss}
use Rattle.lhg_plant.specs.Sound.{IsSoundLoss}
use Rattle.lhg_plant.specs.State.{PlainState}
use Rattle.lhg_loss.specs.StageFacts.{AreCounted}
use Rattle.lhg_loss.specs.Views.{plain_losses, AllHaveVars}
use Rattle.lhg_loss.specs.declared.losses.Loss.{Loss}
use Rattle.lhg_spoil.specs.Telling.{records_upto}

-- they are those of the rounds up to a number, numbered from 1, sound and over the plant's variables, and hold every state removed so far
pub record AreRecordsUpto (a : PlainPlant) (upto : ℕ) (losses : List Loss) : Type 0 where
  pub same : plain_losses losses ≡ records_upto a upto
  pub counted : AreCounted (plain_losses losses)
  pub sound : (loss : PlainLoss) → Contains (plain_losses losses) loss → IsSoundLoss a (plain_losses losses) loss
  pub vars : AllHaveVars (length a.vars) losses
  pub known : (s : PlainState) (j : ℕ) → j ≤ upto → IsRemovedIn a j s → InSomeLoss a (plain_losses losses) s
