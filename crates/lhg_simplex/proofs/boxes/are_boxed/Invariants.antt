use Rattle.std.proofs.Common.{◌≡◌, drop}
use Rattle.lhg_simplex.specs.Boxes.{are_boxed}
use Rattle.lhg_simplex.proofs.boxes.are_boxed.Given as goal

abbrev pub invariant-loop-row : goal.invariant-loop-row
invariant-loop-row l = are_boxed (drop l.row-index l.rows) ≡ are_boxed l.rows
