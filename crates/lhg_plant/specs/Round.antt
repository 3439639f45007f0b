-- What are the rounds of the shrinking iteration, and which of them is the last?
use Rattle.std.specs.Prelude.{◌≡◌, ◌<◌, ℕ, zero, suc}
use Rattle.lhg_plant.specs.Plant.{PlainPlant}
use Rattle.lhg_plant.specs.State.{PlainState, States, IsSafe}
use Rattle.lhg_plant.specs.OutBack.{Back}
use Rattle.lhg_plant.specs.Escape.{HasEscape}

-- the states of a set without an escape from it past its Back
abbrev pub Next : PlainPlant → States → PlainState → Type 0
Next a S s = S s × ¬ HasEscape a S (Back a S) s

-- round 0 is all safe states, and each further round is what follows the one before
abbrev pub InRound : PlainPlant → ℕ → PlainState → Type 0
InRound a zero s = IsSafe a s
InRound a (suc i) s = Next a (InRound a i) s

-- the state is removed in round i: it is in round i - 1 and not in round i
pub record IsRemovedIn (a : PlainPlant) (i : ℕ) (s : PlainState) : Type 0 where
  pub round : ℕ
  pub number : i ≡ suc round
  pub kept : InRound a round s
  pub gone : ¬ InRound a i s

-- no state is removed in round i
abbrev pub RemovesNothing : PlainPlant → ℕ → Type 0
RemovesNothing a i = (s : PlainState) → ¬ IsRemovedIn a i s

-- the first round, counted from 1, that removes nothing
pub record IsLastRound (a : PlainPlant) (i : ℕ) : Type 0 where
  pub counted : 0 < i
  pub settled : RemovesNothing a i
  pub first : (j : ℕ) → 0 < j → j < i → ¬ RemovesNothing a j
