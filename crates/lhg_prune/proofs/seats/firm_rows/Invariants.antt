use Rattle.std.proofs.Common.{take, length}
use Rattle.std.specs.Prelude.{◌⊎◌}
use Rattle.lhg_math.specs.Tests.{AllOf}
use Rattle.lhg_row.specs.Row.{PlainRow, Holds}
use Rattle.lhg_row.specs.Width.{AllWide}
use Rattle.lhg_prune.specs.Seat.{IsIn}
use Rattle.lhg_prune.specs.Touch.{strictly}
use Rattle.lhg_prune.proofs.seats.firm_rows.Given as goal

abbrev pub invariant-loop-i : goal.invariant-loop-i
invariant-loop-i g l = record {
  told : AllOf (λ (r : PlainRow). Holds (strictly r) l.point ⊎ IsIn r l.out.items) (take l.i l.rows);
  wide : AllWide (length l.point) l.out.items;
}
