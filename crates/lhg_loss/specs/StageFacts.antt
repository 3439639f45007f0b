-- What does a stage of the iteration say of the rounds of the game, and what does the solution within a budget?
use Rattle.std.specs.Prelude.{◌≡◌, ◌↔◌, ◌+◌, ◌<◌, ◌≤◌, ℕ, zero, suc, false, List, length, slice_get, Some, Contains}
use Rattle.lhg_plant.specs.Plant.{PlainPlant}
use Rattle.lhg_plant.specs.State.{PlainState, IsSafe}
use Rattle.lhg_plant.specs.Round.{InRound, IsRemovedIn}
use Rattle.lhg_plant.specs.Region.{PlainRegion, InRegion}
use Rattle.lhg_plant.specs.Controller.{PlainController}
use Rattle.lhg_plant.specs.Loss.{PlainLoss}
use Rattle.lhg_plant.specs.Sound.{IsSoundLoss}
use Rattle.lhg_plant.specs.Choice.{IsLegalChoice}
use Rattle.lhg_plant.specs.Pick.{picks}
use Rattle.lhg_plant.specs.Solution.{InSomeLoss, IsSolution}
use Rattle.lhg_plant.specs.Laws.{HasExactGuards}
use Rattle.lhg_plant.specs.BackCalculus.{guards}
use Rattle.lhg_loss.specs.Iterate.{PlainStage, PlainSolution, solved, spent, next_round, after_round, none_lost}
use Rattle.lhg_loss.specs.RoundFacts.{IsRegion, IsExactRound}

-- some state is removed in the round
abbrev pub RemovesSome : PlainPlant → ℕ → Type 0
RemovesSome a i = (s : PlainState) × IsRemovedIn a i s

-- the records have the numbers from 1 on
abbrev pub AreCounted : List PlainLoss → Type 0
AreCounted losses = (k : ℕ) (loss : PlainLoss) → slice_get losses k ≡ Some loss → loss.number ≡ k + 1

-- after round i, where each round so far removed a state: the region is the round, and the records are sound and hold all safe
-- states that are lost
pub record IsStage (a : PlainPlant) (i : ℕ) (s : PlainStage) : Type 0 where
  pub region_is : IsRegion a s.region
  pub exact : (z : PlainState) → InRegion a s.region z ↔ InRound a i z
  pub counted : AreCounted s.losses
  pub rounds : (loss : PlainLoss) → Contains s.losses loss → loss.round ≤ i
  pub sound : (loss : PlainLoss) → Contains s.losses loss → IsSoundLoss a s.losses loss
  pub lost : (z : PlainState) → IsSafe a z → ¬ InRegion a s.region z → InSomeLoss a s.losses z
  pub removes : (j : ℕ) → 0 < j → j ≤ i → RemovesSome a j

-- the rounds that are computed from a stage on are exact: at most so many, up to the first one without records
abbrev pub AreExactRounds : ℕ → PlainPlant → ℕ → PlainStage → Type 0
AreExactRounds zero a i s = Unit {0}
AreExactRounds (suc left) a i s =
    let r = (next_round a (suc i) s).value in
    IsExactRound a s.region (suc i) (length s.losses + 1) r × (none_lost r.losses ≡ false → AreExactRounds left a (suc i) (after_round s r))

-- the guards of each region inside the invariants are its states in Back of it by the switch
abbrev pub AreExactGuards : PlainPlant → Type 0
AreExactGuards a = (region : PlainRegion) → IsRegion a region → HasExactGuards a (record { region = region; guards = (guards a region).value })

-- the controller, the number of rounds and the records solve the game; the region is the round of this number, which is at most the
-- budget; the guards are the states that each switch keeps in it, and what the calculus picks there is a legal choice; and the
-- records are sound and are numbered from 1
pub record IsSolved (a : PlainPlant) (budget : ℕ) (c : PlainController) (rounds : ℕ) (losses : List PlainLoss) : Type 0 where
  pub region_is : IsRegion a c.region
  pub exact : (s : PlainState) → InRegion a c.region s ↔ InRound a rounds s
  pub solution : IsSolution a c rounds losses
  pub guards : HasExactGuards a c
  pub picked : IsLegalChoice a c.region (picks a c.region)
  pub within : rounds ≤ budget
  pub counted : AreCounted losses
  pub sound : (loss : PlainLoss) → Contains losses loss → IsSoundLoss a losses loss

-- each round up to the budget removes a state, and the last of them this one
pub record IsSpent (a : PlainPlant) (budget : ℕ) (s : PlainState) : Type 0 where
  pub removed : IsRemovedIn a budget s
  pub removes : (j : ℕ) → 0 < j → j ≤ budget → RemovesSome a j

-- which of the two the solution says
abbrev pub IsSolvedWithin : PlainPlant → ℕ → PlainSolution → Type 0
IsSolvedWithin a budget (solved rounds region guards losses) = IsSolved a budget (record { region = region; guards = guards }) rounds losses
IsSolvedWithin a budget (spent s) = IsSpent a budget s
