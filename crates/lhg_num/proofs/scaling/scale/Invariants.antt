use Rattle.std.proofs.Common.{◌≡◌, ◌++◌, map, take, drop}
use Rattle.lhg_math.specs.Number.{Number, mul}
use Rattle.lhg_num.proofs.scaling.scale.Given as goal

abbrev pub invariant-loop-i : goal.invariant-loop-i
invariant-loop-i l = l.row ≡ map (λ (x : Number). mul x l.factor) (take l.i l.initial.row) ++ drop l.i l.initial.row
