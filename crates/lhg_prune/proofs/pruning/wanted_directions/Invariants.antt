use Rattle.lhg_row.specs.Width.{AllWide}
use Rattle.lhg_prune.proofs.pruning.wanted_directions.Given as goal

abbrev pub invariant-loop-point : goal.invariant-loop-point
invariant-loop-point g l = AllWide l.keep l.wanted.items
