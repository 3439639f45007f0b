use Rattle.lhg_prune.specs.Directions.{is_wanted}
use Rattle.lhg_prune.proofs.ListSteps.{IsChoosing}
use Rattle.lhg_prune.proofs.directions.push_wanted.Given as goal

abbrev pub invariant-loop-row : goal.invariant-loop-row
invariant-loop-row g l = IsChoosing l.vars (is_wanted g.N.Scalar.arithmetic l.wanted) l.fn.out.items l.fn.rows.items l.out.items l.row-iterator.rest.items
