-- Which answers about one state exclude each other?
use Rattle.std.specs.Prelude.{ℕ, List}
use Rattle.lhg_plant.specs.Plant.{PlainPlant}
use Rattle.lhg_plant.specs.State.{PlainState, IsSafe}
use Rattle.lhg_plant.specs.Round.{InRound}
use Rattle.lhg_plant.specs.Loss.{PlainLoss}
use Rattle.lhg_loss.specs.StageFacts.{IsSpent}
use Rattle.lhg_iterate.specs.Seeking.{IsKept, IsLost}

-- a state that is kept, lost, or in the last round of a spent budget is safe, and is only one of the three: so each answer comes exactly where it says
pub record SoughtLaws (a : PlainPlant) (budget : ℕ) (z : PlainState) : Type 0 where
  pub kept_safe : (rounds : ℕ) → IsKept a budget rounds z → IsSafe a z
  pub lost_safe : (m : ℕ) (losses : List PlainLoss) → IsLost a budget m losses z → IsSafe a z
  pub spent_safe : InRound a budget z → IsSafe a z
  pub kept_not_lost : (rounds m : ℕ) (losses : List PlainLoss) → IsKept a budget rounds z → IsLost a budget m losses z → ⊥
  pub kept_not_spent : (rounds : ℕ) (s : PlainState) → IsKept a budget rounds z → IsSpent a budget s → ⊥
  pub lost_not_spent : (m : ℕ) (losses : List PlainLoss) → IsLost a budget m losses z → InRound a budget z → ⊥
