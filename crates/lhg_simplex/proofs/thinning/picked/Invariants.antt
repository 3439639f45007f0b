use Rattle.lhg_simplex.specs.Others.{others, AreFrom}
use Rattle.lhg_simplex.proofs.thinning.picked.Given as goal

abbrev pub invariant-loop-part : goal.invariant-loop-part
invariant-loop-part g l = AreFrom l.vars (others l.rows l.i) l.out.items
