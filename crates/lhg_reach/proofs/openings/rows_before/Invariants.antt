use Rattle.lhg_row.specs.Width.{AllWide}
use Rattle.lhg_reach.specs.Before.{AreBefore}
use Rattle.lhg_reach.proofs.openings.rows_before.Given as goal

abbrev pub invariant-loop-row : goal.invariant-loop-row
invariant-loop-row g l = AreBefore l.vars l.flow l.rows l.out.items × AllWide l.vars l.out.items
