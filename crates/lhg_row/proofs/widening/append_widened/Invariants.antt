use Rattle.std.proofs.Common.{◌≡◌, ◌++◌, map, take}
use Rattle.lhg_row.specs.Widened.{widened}
use Rattle.lhg_row.proofs.widening.append_widened.Given as goal

abbrev pub invariant-loop-row : goal.invariant-loop-row
invariant-loop-row g l = l.out.items ≡ l.initial.out.items ++ map (widened l.before l.after) (take l.row-index l.rows)
