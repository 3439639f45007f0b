use Rattle.std.proofs.Common.{◌≡◌, ◌++◌, ◌-◌}
use Rattle.lhg_read.specs.Keep.{keep_from, keep_rows}
use Rattle.lhg_read.proofs.axes.push_keep_rows.Given as goal

abbrev pub invariant-loop-v : goal.invariant-loop-v
invariant-loop-v l = l.fn.rows.items ++ keep_rows l.n ≡ l.rows.items ++ keep_from l.n l.v (l.n - l.v)
