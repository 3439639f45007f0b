use Rattle.lhg_union.proofs.CutSteps.{IsCutting}
use Rattle.lhg_union.proofs.cutting.cut_off.Given as goal

abbrev pub invariant-loop-row : goal.invariant-loop-row
invariant-loop-row g l = IsCutting g.N.Scalar.arithmetic l.vars l.rows l.others l.base.items l.out.items l.row-index
