use Rattle.std.proofs.Common.{◌≡◌, ◌++◌}
use Rattle.lhg_row.proofs.trimming.uncoded.Given as goal

abbrev pub invariant-loop-coded : goal.invariant-loop-coded
invariant-loop-coded g l = l.out.items ++ l.coded-iterator.rest.items ≡ l.fn.rows.items
