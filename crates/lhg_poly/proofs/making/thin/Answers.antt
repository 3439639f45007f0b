use Rattle.lhg_num.proofs.Halted.{part_halts_rows}
use Rattle.lhg_poly.proofs.MakeSteps.{thin-part, thin-step}
use Rattle.lhg_poly.proofs.making.thin.Goals as goal

pub returns-in_err-rows : goal.returns-in_err-rows
returns-in_err-rows g c =
    part_halts_rows c.from_residual-in_err-rows.result c.in_err-rows.field-0.0 _ (λ v. v.items) _ _ c.from_residual-in_err-rows.ensures.1 c.in_err-rows.ensures
    (thin-part g.N.Scalar.arithmetic c.args.vars c.args.rows.items c.loop-i.rows.items c.loop-i.i c.loop-i.invariant c.loop-i-test.true)

pub loop-i-preserved : goal.loop-i-preserved
loop-i-preserved g c =
    thin-step g.N.Scalar.arithmetic c.args.vars c.args.rows.items c.loop-i.rows.items c.loop-i.i c.loop-i.invariant c.loop-i-test.true g.met.N.Scalar.lawful c.in_ok-rows.rows.items c.in_ok-rows.ensures
