use Rattle.std.proofs.Common.{◌≡◌, ◌++◌, map, take}
use Rattle.lhg_row.specs.Row.{relaxed}
use Rattle.lhg_row.specs.Widened.{widened}
use Rattle.lhg_cross.proofs.relaxing.append_relaxed.Given as goal

abbrev pub invariant-loop-row : goal.invariant-loop-row
invariant-loop-row g l = l.out.items ≡ l.initial.out.items ++ map (λ r. widened l.before l.after (relaxed r)) (take l.row-index l.rows)
