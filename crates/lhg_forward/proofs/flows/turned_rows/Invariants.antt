use Rattle.std.proofs.Common.{◌≡◌, ◌++◌, [], map, take}
use Rattle.lhg_forward.specs.After.{turned}
use Rattle.lhg_forward.proofs.flows.turned_rows.Given as goal

abbrev pub invariant-loop-row : goal.invariant-loop-row
invariant-loop-row l = l.out.items ≡ [] ++ map turned (take l.row-index l.rows)
