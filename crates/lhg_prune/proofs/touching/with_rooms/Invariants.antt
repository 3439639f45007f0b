use Rattle.lhg_row.specs.Width.{AllWide}
use Rattle.lhg_prune.proofs.touching.with_rooms.Given as goal

abbrev pub invariant-loop-row : goal.invariant-loop-row
invariant-loop-row l = AllWide l.vars l.out.items
