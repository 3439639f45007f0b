use Rattle.std.proofs.Common.{◌≡◌, ◌++◌, [], map, take}
use Rattle.lhg_row.specs.Row.{relaxed}
use Rattle.lhg_prune.proofs.kinds.weak_rows.Given as goal

abbrev pub invariant-loop-row : goal.invariant-loop-row
invariant-loop-row l = l.out.items ≡ [] ++ map relaxed (take l.row-index l.rows)
