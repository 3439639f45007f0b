use Rattle.lhg_num.specs.Marked.{each}
use Rattle.lhg_num.specs.MarkedLaws.{IsBuilt}
use Rattle.lhg_row.specs.Trim.{canon}
use Rattle.lhg_row.proofs.trimming.canons.Given as goal

abbrev pub invariant-loop-row : goal.invariant-loop-row
invariant-loop-row g l =
    let f = canon g.N.Scalar.arithmetic in
    IsBuilt (each f l.fn.rows.items) l.out.items (each f l.row-iterator.rest.items)
