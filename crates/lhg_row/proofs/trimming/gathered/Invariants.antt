use Rattle.lhg_row.proofs.GatherSteps.{IsGathering}
use Rattle.lhg_row.proofs.trimming.gathered.Given as goal

abbrev pub invariant-loop-row : goal.invariant-loop-row
invariant-loop-row g l = IsGathering g.N.Scalar.arithmetic l.fn.rows.items l.kept.items l.row-iterator.rest.items
