use Rattle.lhg_row.specs.Width.{AllWide}
use Rattle.lhg_prune.proofs.tests.rows.Given as goal

abbrev pub invariant-loop-line : goal.invariant-loop-line
invariant-loop-line l = AllWide 3 l.out.items
