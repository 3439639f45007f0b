use Rattle.std.proofs.Common.{◌≡◌, ◌++◌, map, take, drop, ℤ}
use Rattle.std.specs.Int.RustNames.{int_div}
use Rattle.lhg_whole.proofs.contents.divide.Given as goal

abbrev pub invariant-loop-i : goal.invariant-loop-i
invariant-loop-i l = l.row ≡ map (λ (z : ℤ). int_div z l.g) (take l.i l.initial.row) ++ drop l.i l.initial.row
