use Rattle.std.proofs.Common.{◌≡◌, ◌++◌, drop}
use Rattle.lhg_prune.specs.Directions.{is_wanted}
use Rattle.lhg_prune.proofs.ListSteps.{chosen_sides}
use Rattle.lhg_prune.proofs.forming.push_wanted_sides.Given as goal

abbrev pub invariant-loop-row : goal.invariant-loop-row
invariant-loop-row g l =
    let a = g.N.Scalar.arithmetic in
    let test = is_wanted a l.wanted in
    l.out.items ++ chosen_sides a l.k test l.rows (drop l.row-index l.rows) ≡ l.fn.out.items ++ chosen_sides a l.k test l.rows l.rows
