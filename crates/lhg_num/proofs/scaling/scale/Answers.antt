use Rattle.lhg_math.specs.Number.{Number, mul}
use Rattle.lhg_num.proofs.ScaledRows.{set-done}
use Rattle.lhg_num.proofs.scaling.scale.Goals as goal

pub loop-i-preserved : goal.loop-i-preserved
loop-i-preserved c = set-done (λ (x : Number). mul x c.args.factor.now) c.args.row.now c.loop-i.row c.loop-i.i c.index-row-i.result c.product_of.result c.loop-i.invariant c.loop-i-test.true c.index-row-i.is c.product_of.ensures
