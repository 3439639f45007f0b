use Rattle.std.proofs.Common.{◌≡◌, drop}
use Rattle.lhg_math.specs.Tests.{any_of}
use Rattle.lhg_row.specs.Row.{PlainRow}
use Rattle.lhg_row.specs.Trim.{same_direction}
use Rattle.lhg_prune.proofs.directions.is_wanted.Given as goal

abbrev pub invariant-loop-other : goal.invariant-loop-other
invariant-loop-other g l =
    let test = λ (w : PlainRow). (same_direction g.N.Scalar.arithmetic l.row w).value in
    any_of test (drop l.other-index l.wanted) ≡ any_of test l.wanted
