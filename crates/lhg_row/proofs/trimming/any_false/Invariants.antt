use Rattle.std.proofs.Common.{◌≡◌, drop}
use Rattle.lhg_math.specs.Tests.{any_of}
use Rattle.lhg_row.specs.Constant.{is_false}
use Rattle.lhg_row.proofs.trimming.any_false.Given as goal

abbrev pub invariant-loop-row : goal.invariant-loop-row
invariant-loop-row g l = any_of is_false (drop l.row-index l.rows) ≡ any_of is_false l.rows
