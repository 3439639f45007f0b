use Rattle.std.proofs.Common.{◌≡◌, drop}
use Rattle.lhg_simplex.specs.Boxes.{upper_of}
use Rattle.lhg_simplex.proofs.boxes.upper_of.Given as goal

abbrev pub invariant-loop-row : goal.invariant-loop-row
invariant-loop-row l = upper_of l.k (drop l.row-index l.rows) ≡ upper_of l.k l.rows
