-- From which side does a row bound a variable, and which of two bounds is the tighter?
use Rattle.std.specs.Prelude.{ℕ, Bool}
use Rattle.std.specs.declared.cmp.Ordering.{Ordering}
use Rattle.lhg_math.specs.Bounds.{Bound}
use Rattle.lhg_row.specs.Row.{PlainRow}
use Rattle.lhg_row.specs.Column.{lower_at, upper_at}
use Rattle.lhg_row.specs.Sample.{greater_of, lesser_of}
use Rattle.lhg_sample.specs.declared.bounds.Side.{Side}
use Rattle.lhg_sample.specs.declared.bounds.Side.TheVariants.{Lower, Upper}

-- the row bounds variable j from this side
abbrev pub bounds_from : Side → ℕ → PlainRow → Bool
bounds_from Lower = lower_at
bounds_from Upper = upper_at

-- the tighter of two bounds of this side
abbrev pub tighter_from : Side → Bound → Bound → Ordering → Bound
tighter_from Lower = greater_of
tighter_from Upper = lesser_of
