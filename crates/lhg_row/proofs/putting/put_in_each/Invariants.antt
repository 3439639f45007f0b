use Rattle.std.proofs.Common.{◌≤◌, length, drop}
use Rattle.lhg_math.specs.Tests.{AllOf}
use Rattle.lhg_num.specs.Marked.{each}
use Rattle.lhg_num.specs.MarkedLaws.{IsBuilt}
use Rattle.lhg_row.specs.PutIn.{put_in, put_in_each}
use Rattle.lhg_row.proofs.putting.put_in_each.Given as goal

abbrev pub invariant-loop-row : goal.invariant-loop-row
invariant-loop-row g l =
    let a = g.N.Scalar.arithmetic in
    record {
      built : IsBuilt (put_in_each a l.point l.rows) l.out.items (each (put_in a l.point) (drop l.row-index l.rows));
      long : AllOf (λ r. length l.point ≤ length r.coefs) l.rows;
    }
