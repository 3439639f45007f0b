use Rattle.std.proofs.Common.{◌≡◌, ◌++◌, [], map, take}
use Rattle.lhg_forward.specs.After.{swapped}
use Rattle.lhg_forward.proofs.switches.swapped_rows.Given as goal

abbrev pub invariant-loop-row : goal.invariant-loop-row
invariant-loop-row l = l.out.items ≡ [] ++ map (swapped l.vars) (take l.row-index l.jump)
