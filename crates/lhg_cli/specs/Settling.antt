-- Where does a budget of rounds have one outcome?
use Rattle.std.specs.Prelude.{◌≡◌, ◌<◌, ◌≤◌, ℕ, false}
use Rattle.lhg_plant.specs.Plant.{PlainPlant}
use Rattle.lhg_plant.specs.Round.{IsLastRound}
use Rattle.lhg_loss.specs.Iterate.{work}
use Rattle.lhg_loss.specs.LimitFacts.{IsComputed}
use Rattle.lhg_loss.specs.StageFacts.{RemovesSome}

-- the calculus is within its limits in the work of each round up to this one
pub record IsWithinTo (a : PlainPlant) (budget round : ℕ) : Type 0 where
  pub numbers : (i : ℕ) → i ≤ round → (work a budget i).wide ≡ false
  pub rows : (i : ℕ) → i ≤ round → (work a budget i).rows ≡ false
  pub pieces : (i : ℕ) → i ≤ round → (work a budget i).pieces ≡ false

-- the calculus is within its limits in the work of each round that it computes for the budget
pub record IsWithin (a : PlainPlant) (budget : ℕ) : Type 0 where
  pub numbers : (i : ℕ) → i ≤ budget → IsComputed a i → (work a budget i).wide ≡ false
  pub rows : (i : ℕ) → i ≤ budget → IsComputed a i → (work a budget i).rows ≡ false
  pub pieces : (i : ℕ) → i ≤ budget → IsComputed a i → (work a budget i).pieces ≡ false

-- some round up to the budget removes nothing, and the calculus stays within its limits to that round
pub record IsSettled (a : PlainPlant) (budget : ℕ) : Type 0 where
  pub round : ℕ
  pub within : round ≤ budget
  pub last : IsLastRound a round
  pub limits : IsWithinTo a budget round

-- each round up to the budget removes a state, and the calculus stays within its limits to the last of them
pub record IsUnsettled (a : PlainPlant) (budget : ℕ) : Type 0 where
  pub removes : (j : ℕ) → 0 < j → j ≤ budget → RemovesSome a j
  pub limits : IsWithinTo a budget budget
