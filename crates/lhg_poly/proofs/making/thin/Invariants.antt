use Rattle.lhg_poly.proofs.MakeSteps.{IsThinning}
use Rattle.lhg_poly.proofs.making.thin.Given as goal

abbrev pub invariant-loop-i : goal.invariant-loop-i
invariant-loop-i g l = IsThinning g.N.Scalar.arithmetic l.vars l.fn.rows.items l.rows.items l.i

abbrev pub decreases-loop-i : goal.decreases-loop-i
decreases-loop-i g l = l.i
