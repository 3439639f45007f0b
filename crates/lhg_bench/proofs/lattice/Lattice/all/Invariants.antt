use Rattle.lhg_union.specs.PolyLists.{AllVars}
use Rattle.lhg_bench.proofs.lattice.Lattice.all.Given as goal

abbrev pub invariant-loop-number : goal.invariant-loop-number
invariant-loop-number l = AllVars l.self.vars l.out.items
