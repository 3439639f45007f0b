use Rattle.lhg_union.specs.PolyLists.{AllVars}
use Rattle.lhg_bench.proofs.boxes.diagonal.Given as goal

abbrev pub invariant-loop-i : goal.invariant-loop-i
invariant-loop-i l = AllVars l.vars l.out.items
