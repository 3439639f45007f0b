use Rattle.lhg_union.proofs.MinusSteps.{IsReducing}
use Rattle.lhg_union.proofs.differences.minus_one.Given as goal

abbrev pub invariant-loop-p : goal.invariant-loop-p
invariant-loop-p g l = IsReducing g.N.Scalar.arithmetic l.q.width l.q.lines l.fn.ps.items l.out.items l.p-iterator.rest.items
