use Rattle.std.proofs.Common.{◌≡◌, ◌++◌, [], map, take}
use Rattle.lhg_prune.specs.Touch.{strictly}
use Rattle.lhg_prune.proofs.kinds.strict_rows.Given as goal

abbrev pub invariant-loop-row : goal.invariant-loop-row
invariant-loop-row l = l.out.items ≡ [] ++ map strictly (take l.row-index l.rows)
