-- What is formed to seek a state, and which round decides?
use Rattle.std.specs.Prelude.{◌<◌, ℕ, cond, List, nat_eq, Option, Some, None}
use Rattle.lhg_num.specs.Marked.{Marked, done, and_then, valued}
use Rattle.lhg_plant.specs.Plant.{PlainPlant}
use Rattle.lhg_plant.specs.State.{PlainState, IsSafe}
use Rattle.lhg_plant.specs.Round.{InRound}
use Rattle.lhg_plant.specs.Loss.{PlainLoss}
use Rattle.lhg_loss.specs.Holding.{holding}
use Rattle.lhg_loss.specs.Iterate.{stage, nothing, spent_state}
use Rattle.lhg_loss.specs.StageFacts.{RemovesSome}

-- no round before this one decides: the safe state is in each of them, and each removes a state
pub record IsUndecided (a : PlainPlant) (i : ℕ) (z : PlainState) : Type 0 where
  pub safe : IsSafe a z
  pub kept : (j : ℕ) → j < i → InRound a j z
  pub removes : (j : ℕ) → 0 < j → j < i → RemovesSome a j

-- the sample of the first record, where none of the records holds the state
abbrev pub kept_work : PlainPlant → List PlainLoss → Option ℕ → Marked (Unit {0})
kept_work a losses None = valued nothing (spent_state a losses)
kept_work a losses (Some m) = done tt

-- all that is formed in the work of round i to seek the state: the stage; the sample belongs to the last round of the budget
unfoldable pub seek_work : PlainPlant → ℕ → PlainState → ℕ → Marked (Unit {0})
seek_work a budget z i =
    and_then (stage a i) (λ s.
    let last = kept_work a s.last (holding z s.last).value in
    cond (nat_eq i budget) last (done tt))
