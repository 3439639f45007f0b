use Rattle.std.proofs.Common.{◌≡◌, false}
use Rattle.lhg_row.specs.Members.{SomeOf}
use Rattle.lhg_row.specs.Row.{PlainRow, PlainPoint, holds_at}
use Rattle.lhg_prune.proofs.ListSteps.{all-taken}
use Rattle.lhg_prune.proofs.seats.fail_somewhere.Goals as goal

pub loop-row-preserved : goal.loop-row-preserved
loop-row-preserved c =
    all-taken (λ (r : PlainRow). SomeOf (λ (p : PlainPoint). holds_at r p ≡ false) c.args.points.now) c.args.rows.now c.loop-row.row-index c.row-item.result c.row-item.is c.loop-row-test.true c.loop-row.invariant
    (c.in_ok-fails.ensures c.if-not-fails.false)
