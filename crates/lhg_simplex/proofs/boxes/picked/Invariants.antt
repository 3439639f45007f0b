use Rattle.std.proofs.Common.{◌≡◌, ◌++◌, drop}
use Rattle.lhg_simplex.specs.Boxes.{picked}
use Rattle.lhg_simplex.proofs.boxes.picked.Given as goal

abbrev pub invariant-loop-row : goal.invariant-loop-row
invariant-loop-row l = l.out.items ++ picked l.k (drop l.row-index l.rows) ≡ picked l.k l.rows
