use Rattle.std.proofs.Common.{◌≡◌, ◌++◌, [], map, take}
use Rattle.lhg_math.specs.Number.{whole}
use Rattle.lhg_row.proofs.forms.fractions.Given as goal

abbrev pub invariant-loop-n : goal.invariant-loop-n
invariant-loop-n l = l.out.items ≡ [] ++ map whole (take l.n-index l.numbers)
