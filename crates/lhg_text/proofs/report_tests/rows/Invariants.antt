use Rattle.lhg_row.specs.Width.{AllWide}
use Rattle.lhg_text.proofs.report_tests.rows.Given as goal

abbrev pub invariant-loop-line : goal.invariant-loop-line
invariant-loop-line l = AllWide 1 l.out.items
