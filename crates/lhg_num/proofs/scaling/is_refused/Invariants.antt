use Rattle.std.proofs.Common.{◌≡◌, drop}
use Rattle.lhg_math.specs.Number.{Number}
use Rattle.lhg_math.specs.Tests.{any_of}
use Rattle.lhg_num.specs.Limits.{frac_refuses_mul}
use Rattle.lhg_num.proofs.scaling.is_refused.Given as goal

abbrev pub invariant-loop-entry : goal.invariant-loop-entry
invariant-loop-entry l = let f = λ (x : Number). frac_refuses_mul x l.factor in any_of f l.row ≡ any_of f (drop l.entry-index l.row)
