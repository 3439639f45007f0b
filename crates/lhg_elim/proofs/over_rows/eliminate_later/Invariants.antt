use Rattle.std.proofs.Common.{◌≤◌, ◌-◌}
use Rattle.lhg_num.specs.Marked.{IsRest}
use Rattle.lhg_row.specs.Width.{AllWide}
use Rattle.lhg_row.specs.Eliminate.{eliminate_last}
use Rattle.lhg_elim.proofs.over_rows.eliminate_later.Given as goal

abbrev pub invariant-later : goal.invariant-later
invariant-later g l =
    let a = g.N.Scalar.arithmetic in
    record {
      left : IsRest (eliminate_last a l.keep (l.vars - l.keep) l.fn.rows.items) (eliminate_last a l.keep (l.n - l.keep) l.left.items);
      more : l.keep ≤ l.n;
      wide : AllWide l.n l.left.items;
    }

abbrev pub decreases-later : goal.decreases-later
decreases-later g l = l.n
