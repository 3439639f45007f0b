use Rattle.std.proofs.Common.{◌≡◌, drop}
use Rattle.lhg_simplex.specs.Boxes.{lower_of}
use Rattle.lhg_simplex.proofs.boxes.lower_of.Given as goal

abbrev pub invariant-loop-row : goal.invariant-loop-row
invariant-loop-row l = lower_of l.k (drop l.row-index l.rows) ≡ lower_of l.k l.rows
