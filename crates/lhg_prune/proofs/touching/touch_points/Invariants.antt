use Rattle.std.proofs.Common.{◌≡◌, length}
use Rattle.lhg_math.specs.Tests.{AllOf}
use Rattle.lhg_row.specs.Row.{PlainPoint}
use Rattle.lhg_prune.proofs.touching.touch_points.Given as goal

abbrev pub invariant-loop-i : goal.invariant-loop-i
invariant-loop-i l = AllOf (λ (z : PlainPoint). length z ≡ l.vars) l.points.items
