use Rattle.lhg_union.specs.PolyLists.{AllVars}
use Rattle.lhg_text.proofs.report_tests.list.Given as goal

abbrev pub invariant-loop-lines : goal.invariant-loop-lines
invariant-loop-lines l = AllVars 1 l.out.items
