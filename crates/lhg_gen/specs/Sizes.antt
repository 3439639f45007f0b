-- How many locations has a generated plant, and why is none generated?
use Rattle.std.specs.Prelude.{◌≡◌, ◌⊎◌, ◌≤◌, ◌<◌, ℕ}
use Rattle.lhg_plant.specs.Limits.{most_locations}
use Rattle.lhg_gen.specs.declared.stops.GenStop.{GenStop}
use Rattle.lhg_gen.specs.declared.stops.GenStop.TheVariants.{Range, Memory}

-- one location or more, and at most 64
pub record IsSize (k : ℕ) : Type 0 where
  pub some : 1 ≤ k
  pub few : k ≤ most_locations

-- the number is out of range exactly where no plant has so many locations; want of memory is free where one has
abbrev pub HasCause : ℕ → GenStop → Type 0
HasCause k Range = (k ≡ 0) ⊎ (most_locations < k)
HasCause k Memory = IsSize k
