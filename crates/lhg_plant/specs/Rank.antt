-- In which round is a state lost: what is its rank?
use Rattle.std.specs.Prelude.{◌≤◌, ℕ, zero, suc}
use Rattle.lhg_plant.specs.Plant.{PlainPlant}
use Rattle.lhg_plant.specs.State.{PlainState, IsState, IsSafe}
use Rattle.lhg_plant.specs.Round.{IsRemovedIn}

-- the rank of a state is 0 where it is unsafe, and i where it was removed in round i
abbrev pub HasRank : PlainPlant → ℕ → PlainState → Type 0
HasRank a zero s = IsState a s × ¬ IsSafe a s
HasRank a (suc i) s = IsRemovedIn a (suc i) s

-- the state lies outside round j: it has a rank of at most j
pub record IsPast (a : PlainPlant) (j : ℕ) (s : PlainState) : Type 0 where
  pub rank : ℕ
  pub within : rank ≤ j
  pub ranked : HasRank a rank s
