use Rattle.lhg_math.specs.Integers.{mul_assoc_ℤ, mul-add_ℤ, mul-neg_ℤ, lt-mul_ℤ, le-mul_ℤ, mul_cancel_ℤ, ring}
use Rattle.lhg_math.proofs.law_whole.Goals as goal

pub returns : goal.returns
returns c = record { mul_assoc = mul_assoc_ℤ; mul_add = mul-add_ℤ; mul_neg = mul-neg_ℤ; less = lt-mul_ℤ; at_most = le-mul_ℤ; cancel = mul_cancel_ℤ; square = λ a b. simp ring }
