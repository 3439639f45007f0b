-- Which found pieces can be named by records with numbers of 32 bits?
use Rattle.std.specs.Prelude.{◌<◌, ◌+◌, ◌^◌, ℕ}
use Rattle.lhg_reach.specs.declared.found.Found.{Found}

-- the way is there, and the place that is reached fits behind the number of the first record
pub record IsNameable {N : Type 0} (first ways : ℕ) (f : Found N) : Type 0 where
  pub through : f.through < ways
  pub to : first + f.to < 2 ^ 32
