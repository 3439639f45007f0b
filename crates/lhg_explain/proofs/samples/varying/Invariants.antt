use Rattle.std.proofs.Common.{◌≡◌, ◌++◌, filter}
use Rattle.lhg_row.specs.Constant.{varies}
use Rattle.lhg_explain.proofs.samples.varying.Given as goal

abbrev pub invariant-loop-row : goal.invariant-loop-row
invariant-loop-row l = l.left.items ++ filter varies l.row-iterator.rest.items ≡ filter varies l.fn.rows.items
