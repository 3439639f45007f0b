use Rattle.std.proofs.Common.{◌≡◌, drop}
use Rattle.lhg_math.specs.Signs.{is_nought, lead}
use Rattle.lhg_simplex.proofs.boxes.are_level.Given as goal

abbrev pub invariant-loop-k : goal.invariant-loop-k
invariant-loop-k l = is_nought (lead (drop l.k l.row.coefs)) ≡ is_nought (lead (drop l.from l.row.coefs))
