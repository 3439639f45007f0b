use Rattle.std.proofs.Common.{◌∙◌}
use Rattle.lhg_row.specs.Values.{truth}
use Rattle.lhg_row.specs.Truths.{piece_truth, piece_truth-value}
use Rattle.lhg_row.proofs.TestSteps.{all-end}
use Rattle.lhg_row.proofs.values.all_hold.Goals as goal

pub returns-clause-exact : goal.returns-clause-exact
returns-clause-exact g c =
    let a = g.N.Scalar.arithmetic in
    all-end (λ r. truth a r c.args.point.now) c.args.rows.now c.loop-row.row-index (piece_truth a c.args.rows.now c.args.point.now) c.loop-row-test.false c.loop-row.invariant.left
    ∙ piece_truth-value a c.args.rows.now c.args.point.now
