use Rattle.lhg_row.specs.Width.{AllWide}
use Rattle.lhg_prune.proofs.directions.push_unwanted.Given as goal

abbrev pub invariant-loop-row : goal.invariant-loop-row
invariant-loop-row g l = record {
  out : AllWide l.vars l.out.items;
  rest : AllWide l.vars l.row-iterator.rest.items;
}
