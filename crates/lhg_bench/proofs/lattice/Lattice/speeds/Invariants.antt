use Rattle.lhg_row.specs.Width.{AllWide}
use Rattle.lhg_bench.proofs.lattice.Lattice.speeds.Given as goal

abbrev pub invariant-loop-k : goal.invariant-loop-k
invariant-loop-k l = AllWide l.vars l.out.items
