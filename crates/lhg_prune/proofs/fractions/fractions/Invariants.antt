use Rattle.std.proofs.Common.{◌≡◌, ◌++◌, [], map, take}
use Rattle.lhg_prune.proofs.fractions.fractions.Given as goal

abbrev pub invariant-loop-row : goal.invariant-loop-row
invariant-loop-row g l = l.out.items ≡ [] ++ map (λ r. r) (take l.row-index l.rows)
