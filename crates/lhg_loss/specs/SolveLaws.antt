-- Which laws does the iteration obey: what do its stages, its solution and a spent budget say of the game?
use Rattle.std.specs.Prelude.{◌≡◌, ◌+◌, ◌<◌, ◌≤◌, ℕ, List, suc, true, false, ◌++◌, length}
use Rattle.lhg_plant.specs.Plant.{PlainPlant}
use Rattle.lhg_plant.specs.Proper.{IsProper}
use Rattle.lhg_plant.specs.Region.{PlainGuards}
use Rattle.lhg_plant.specs.Round.{IsRemovedIn, IsLastRound}
use Rattle.lhg_plant.specs.State.{PlainState}
use Rattle.lhg_plant.specs.Controller.{PlainController}
use Rattle.lhg_plant.specs.Loss.{PlainLoss}
use Rattle.lhg_plant.specs.Laws.{HasExactGuards}
use Rattle.lhg_loss.specs.Records.{PlainRound}
use Rattle.lhg_loss.specs.Iterate.{PlainStage, stage, after_round, none_lost, spent_state, solution, work}
use Rattle.lhg_loss.specs.RoundFacts.{IsExactRound}
use Rattle.lhg_loss.specs.LimitFacts.{AreExactParts, IsComputed, IsWithinLists}
use Rattle.lhg_loss.specs.StageFacts.{IsStage, AreExactRounds, AreExactGuards, RemovesSome, IsSolved, IsSpent, IsSolvedWithin}

-- the steps of a loop: the stage of round 0; one after a round with records, which removes the sample of its first one; and the
-- solution after a round without records
pub record StageLaws (a : PlainPlant) : Type 0 where
  pub start : IsProper a → IsStage a 0 (stage a 0).value
  pub step : (i : ℕ) (s : PlainStage) (r : PlainRound) → IsStage a i s → IsExactRound a s.region (suc i) (length s.losses + 1) r → none_lost r.losses ≡ false
      → IsStage a (suc i) (after_round s r)
  pub removed : (i : ℕ) (s : PlainStage) (r : PlainRound) → IsStage a i s → IsExactRound a s.region (suc i) (length s.losses + 1) r → none_lost r.losses ≡ false
      → IsRemovedIn a (suc i) (spent_state a r.losses).value
  pub settled : IsProper a → (i : ℕ) (s : PlainStage) (r : PlainRound) (g : PlainGuards) → IsStage a i s → IsExactRound a s.region (suc i) (length s.losses + 1) r → none_lost r.losses ≡ true
      → HasExactGuards a (record { region = r.next; guards = g }) → IsSolved a (suc i) (record { region = r.next; guards = g }) (suc i) (s.losses ++ r.losses)

-- where the rounds and the guards that are computed are exact, the solution within a budget solves the game, or each round up to
-- the budget removes a state
abbrev pub SolveLaw : PlainPlant → Type 0
SolveLaw a = (budget : ℕ) → 0 < budget → IsProper a → AreExactGuards a → AreExactRounds budget a 0 (stage a 0).value → IsSolvedWithin a budget (solution a budget)

-- where what the calculus makes below its rounds is exact, and no list of pieces is past its limit in a round that is computed
abbrev pub LimitLaw : PlainPlant → Type 0
LimitLaw a = (budget : ℕ) → 0 < budget → IsProper a → AreExactParts a → IsWithinLists a budget → IsSolvedWithin a budget (solution a budget)

-- what the calculus makes below its rounds is exact, for every plant
abbrev pub PartsLaw : PlainPlant → Type 0
PartsLaw a = IsProper a → AreExactParts a

-- so the solution within a budget solves the game, or each round up to the budget removes a state, where no list of pieces is past its
-- limit in a round that is computed
abbrev pub SolvedLaw : PlainPlant → Type 0
SolvedLaw a = (budget : ℕ) → 0 < budget → IsProper a → IsWithinLists a budget → IsSolvedWithin a budget (solution a budget)

-- the two outcomes exclude each other, so each comes exactly where it says: a budget is not spent where some round up to it is the
-- last one, nor is a game solved where each round up to the budget removes a state; and the number of rounds is that of the last one
pub record OutcomeLaws (a : PlainPlant) (budget : ℕ) : Type 0 where
  pub not_spent : (s : PlainState) (r : ℕ) → IsSpent a budget s → IsLastRound a r → r ≤ budget → ⊥
  pub not_solved : (c : PlainController) (rounds : ℕ) (losses : List PlainLoss) → IsSolved a budget c rounds losses → ((j : ℕ) → 0 < j → j ≤ budget → RemovesSome a j) → ⊥
  pub last : (c : PlainController) (rounds : ℕ) (losses : List PlainLoss) (r : ℕ) → IsSolved a budget c rounds losses → IsLastRound a r → rounds ≡ r

-- where round r is the last one, and no list of pieces is past its limit up to it, no later round is computed
abbrev pub LastLaw : PlainPlant → Type 0
LastLaw a = (budget r i : ℕ) → IsProper a → IsLastRound a r → ((j : ℕ) → j ≤ r → (work a budget j).pieces ≡ false) → IsComputed a i → i ≤ r
