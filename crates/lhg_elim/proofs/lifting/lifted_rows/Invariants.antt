use Rattle.std.proofs.Common.{take}
use Rattle.lhg_elim.specs.Alike.{AllAlike}
use Rattle.lhg_elim.proofs.lifting.lifted_rows.Given as goal

abbrev pub invariant-loop-row : goal.invariant-loop-row
invariant-loop-row g l = AllAlike g.N.Scalar.arithmetic (take l.row-index l.rows) l.out.items
