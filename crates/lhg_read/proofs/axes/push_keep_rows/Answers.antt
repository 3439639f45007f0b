use Rattle.std.proofs.Common.{◌∙◌, ◌++◌, ap}
use Rattle.lhg_read.proofs.AxisRows.{keep_more, pushed}
use Rattle.lhg_read.proofs.axes.push_keep_rows.Goals as goal

pub loop-v-preserved : goal.loop-v-preserved
loop-v-preserved c =
    c.loop-v.invariant ∙ ap (λ rows. c.loop-v.rows.items ++ rows) (keep_more c.args.n c.loop-v.v c.loop-v-test.true)
    ∙ pushed c.loop-v.rows.items c.push_keep.new.rows.items _ _ c.in_ok-push_keep.ensures
