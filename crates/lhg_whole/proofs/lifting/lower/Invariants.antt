use Rattle.std.proofs.Common.{◌≡◌, ◌++◌, map, drop}
use Rattle.lhg_math.specs.Number.{whole, quot}
use Rattle.lhg_whole.proofs.lifting.lower.Given as goal

abbrev pub invariant-loop-entry : goal.invariant-loop-entry
invariant-loop-entry l = l.out.items ++ map (λ z. quot (whole z) (whole l.size)) (drop l.entry-index l.row) ≡ map (λ z. quot (whole z) (whole l.size)) l.row
