use Rattle.lhg_row.specs.Width.{AllWide}
use Rattle.lhg_elim.proofs.tests.slopes.Given as goal

abbrev pub invariant-loop-line : goal.invariant-loop-line
invariant-loop-line l = AllWide 2 l.rows.items
