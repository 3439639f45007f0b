use Rattle.std.proofs.Common.{◌≡◌, ◌++◌, [], map, take}
use Rattle.lhg_motion.specs.CrossCalculus.{at_flow}
use Rattle.lhg_cross.proofs.speeds.flow_rows.Given as goal

abbrev pub invariant-loop-row : goal.invariant-loop-row
invariant-loop-row g l = l.out.items ≡ [] ++ map at_flow (take l.row-index l.rows)
