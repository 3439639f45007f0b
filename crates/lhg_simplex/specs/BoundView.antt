-- The bounds that the code holds.
use Rattle.std.specs.Prelude.{Option, option_map}
use Rattle.lhg_math.specs.Bounds.{Bound}
use Rattle.lhg_simplex.specs.declared.bounds.Bound as held

-- a bound that the code holds
abbrev pub plain_bound : held.Bound → Bound
plain_bound b = record { at = b.at; strict = b.strict }

-- the same where there may be none
abbrev pub plain_bounds : Option held.Bound → Option Bound
plain_bounds o = option_map plain_bound o
