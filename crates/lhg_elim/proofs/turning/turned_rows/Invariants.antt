use Rattle.std.proofs.Common.{take}
use Rattle.lhg_elim.specs.Turned.{AllTurned}
use Rattle.lhg_elim.proofs.turning.turned_rows.Given as goal

abbrev pub invariant-loop-row : goal.invariant-loop-row
invariant-loop-row g l = AllTurned g.N.Scalar.arithmetic (take l.row-index l.rows) l.out.items
