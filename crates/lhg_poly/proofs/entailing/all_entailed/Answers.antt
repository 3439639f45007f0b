use Rattle.lhg_row.specs.Pieces.{entails, includes}
use Rattle.lhg_row.proofs.TestSteps.{all-on}
use Rattle.lhg_poly.proofs.entailing.all_entailed.Goals as goal

pub loop-row-preserved : goal.loop-row-preserved
loop-row-preserved g c =
    let a = g.N.Scalar.arithmetic in
    let n = c.args.vars in
    all-on (entails a n c.args.rows.now) c.args.asked.now c.loop-row.row-index c.row-item.result c.row-item.is c.loop-row-test.true (includes a n c.args.asked.now c.args.rows.now) c.loop-row.invariant c.in_ok-held.held c.in_ok-held.ensures c.if-not-held.false
