-- What the two fields of a fraction keep.
use Rattle.std.specs.Prelude.{◌<◌, ◌^◌, ℤ, pos, ◌<ℤ◌}
use Rattle.std.specs.Int.RustNames.{unsigned_abs}
use Rattle.lhg_math.specs.Lowest.{IsLowest}

-- n / d is in lowest terms, d is positive, and both are at most 2^127 - 1 in size
pub record IsStored (n d : ℤ) : Type 0 where
  pub above : pos 0 <ℤ d
  pub in_range : unsigned_abs n < 2 ^ 127
  pub below : unsigned_abs d < 2 ^ 127
  pub lowest : IsLowest n (unsigned_abs d)
