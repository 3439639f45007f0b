use Rattle.std.proofs.Common.{◌∙◌, ◌++◌, ap}
use Rattle.lhg_read.proofs.AxisRows.{still_more, pushed}
use Rattle.lhg_read.proofs.axes.still_rows.Goals as goal

pub loop-v-preserved : goal.loop-v-preserved
loop-v-preserved c =
    c.loop-v.invariant ∙ ap (λ rows. c.loop-v.rows.items ++ rows) (still_more c.args.n c.loop-v.v c.loop-v-test.true)
    ∙ pushed c.loop-v.rows.items c.push_still.new.rows.items _ _ c.in_ok-push_still.ensures
