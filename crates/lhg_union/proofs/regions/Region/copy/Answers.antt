use Rattle.std.proofs.Common.{◌∙◌}
use Rattle.lhg_union.proofs.RegionSteps.{copied-step, copied-end}
use Rattle.lhg_union.proofs.regions.Region.copy.Goals as goal

pub loop-list-preserved : goal.loop-list-preserved
loop-list-preserved g c =
    copied-step c.args.self.now.pieces.items c.deref-list-items.result.now c.deref-list-items.ensures.value c.loop-list.list-index c.loop-list.pieces.items c.loop-list.invariant
    c.list-item.result c.list-item.is c.loop-list-test.true c.push.new.self.items c.in_ok-copy.copy c.in_ok-push.ensures.items (c.in_ok-copy.ensures.copies ∙ c.deref.ensures.value)

pub returns : goal.returns
returns g c =
    copied-end c.args.self.now.pieces.items c.deref-list-items.result.now c.deref-list-items.ensures.value c.loop-list.list-index c.loop-list.pieces.items c.loop-list.invariant c.loop-list-test.false
