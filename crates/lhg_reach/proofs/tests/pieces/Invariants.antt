use Rattle.lhg_union.specs.PolyLists.{AllVars}
use Rattle.lhg_reach.proofs.tests.pieces.Given as goal

abbrev pub invariant-loop-lines : goal.invariant-loop-lines
invariant-loop-lines l = AllVars l.vars l.out.items
