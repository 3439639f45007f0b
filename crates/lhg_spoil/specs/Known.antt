-- Which records tell of each state up to a round in which round it was removed?
use Rattle.std.specs.Prelude.{◌<◌, ◌≤◌, ℕ, suc, List, length, Contains}
use Rattle.lhg_math.specs.Tests.{AllOf}
use Rattle.lhg_row.specs.Width.{AllWide}
use Rattle.lhg_plant.specs.Plant.{PlainPlant}
use Rattle.lhg_plant.specs.State.{PlainState}
use Rattle.lhg_plant.specs.Explained.{IsExplained}
use Rattle.lhg_plant.specs.Loss.{PlainLoss}
use Rattle.lhg_plant.specs.Round.{IsRemovedIn}
use Rattle.lhg_plant.specs.Solution.{InSomeLoss}
use Rattle.lhg_plant.specs.Sound.{IsSoundLoss}
use Rattle.lhg_spoil.specs.Exchange.{offer}

-- the records are sound and over the plant's variables, and each state removed in a round up to k lies in one
pub record AreKnown (a : PlainPlant) (losses : List PlainLoss) (k : ℕ) : Type 0 where
  pub sound : (loss : PlainLoss) → Contains losses loss → IsSoundLoss a losses loss
  pub wide : AllOf (λ r. AllWide (length a.vars) r.piece) losses
  pub known : (s : PlainState) (j : ℕ) → j ≤ k → IsRemovedIn a j s → InSomeLoss a losses s

-- what the plant offers from each state removed in a round up to k explains why it was lost
abbrev pub AreOffered : PlainPlant → List PlainLoss → ℕ → Type 0
AreOffered a losses k = (s : PlainState) (i : ℕ) → i < k → IsRemovedIn a (suc i) s → IsExplained a s (offer a losses s).value
