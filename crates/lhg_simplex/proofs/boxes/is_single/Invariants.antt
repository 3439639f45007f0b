use Rattle.std.proofs.Common.{◌≡◌, drop}
use Rattle.lhg_simplex.specs.Boxes.{is_single}
use Rattle.lhg_simplex.proofs.boxes.is_single.Given as goal

abbrev pub invariant-loop-k : goal.invariant-loop-k
invariant-loop-k l = is_single (drop l.k l.row.coefs) ≡ is_single l.row.coefs
