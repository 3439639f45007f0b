use Rattle.std.proofs.Common.{◌≡◌, true, take}
use Rattle.lhg_math.specs.Tests.{AllOf}
use Rattle.lhg_row.specs.Row.{PlainRow}
use Rattle.lhg_prune.specs.Directions.{is_wanted}
use Rattle.lhg_prune.proofs.directions.are_wanted.Given as goal

abbrev pub invariant-loop-row : goal.invariant-loop-row
invariant-loop-row g l = AllOf (λ (r : PlainRow). is_wanted g.N.Scalar.arithmetic l.wanted r ≡ true) (take l.row-index l.rows)
