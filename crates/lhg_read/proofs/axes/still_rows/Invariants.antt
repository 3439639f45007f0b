use Rattle.std.proofs.Common.{◌≡◌, ◌++◌, ◌-◌}
use Rattle.lhg_plant.specs.Still.{still_from, still_rows}
use Rattle.lhg_read.proofs.axes.still_rows.Given as goal

abbrev pub invariant-loop-v : goal.invariant-loop-v
invariant-loop-v l = still_rows l.n ≡ l.rows.items ++ still_from l.n l.v (l.n - l.v)
