use Rattle.lhg_row.specs.Width.{AllWide}
use Rattle.lhg_bench.proofs.lists.fan.Given as goal

abbrev pub invariant-loop-n : goal.invariant-loop-n
invariant-loop-n l = AllWide 3 l.rows.items
