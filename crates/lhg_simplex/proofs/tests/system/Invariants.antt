use Rattle.lhg_row.specs.Width.{AllWide}
use Rattle.lhg_simplex.proofs.tests.system.Given as goal

abbrev pub invariant-loop-line : goal.invariant-loop-line
invariant-loop-line l = AllWide l.vars l.rows.items
