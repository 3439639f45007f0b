use Rattle.std.proofs.Common.{◌≡◌, false, sym, ◌∙◌}
use Rattle.lhg_row.specs.Row.{PlainPoint, holds_at}
use Rattle.lhg_poly.proofs.ClashSteps.{some_item}
use Rattle.lhg_prune.proofs.seats.fails_somewhere.Goals as goal

pub returns-then-not-here : goal.returns-then-not-here
returns-then-not-here c = λ _.
    some_item (λ (p : PlainPoint). holds_at c.args.row.now p ≡ false) c.args.points.now c.loop-point.point-index c.point-item.result c.point-item.is c.loop-point-test.true (sym c.in_ok-here.ensures.exact ∙ c.if-not-here.true)
