use Rattle.lhg_math.specs.NumberOrder.{mul_positive}
use Rattle.lhg_math.specs.SignLaws.{Decides-same_number, same_number_equivalence, Decides-is_nought, is_eq-sign_of, size_from, size_above, size_of-scaled}
use Rattle.lhg_math.specs.SumSigns.{add_positive, add_negative, add_nonpos, mul_negative, mul_nonneg, mul_nonpos}
use Rattle.lhg_math.proofs.law_sign.Goals as goal

pub returns : goal.returns
returns c = record {
  equal = Decides-same_number;
  equivalence = same_number_equivalence;
  zero = Decides-is_nought;
  sign = is_eq-sign_of;
  size_from = size_from;
  size_above = size_above;
  size_factor = size_of-scaled;
  sum_above = add_positive;
  sum_below = add_negative;
  sum_at_most = add_nonpos;
  product_above = mul_positive;
  product_below = mul_negative;
  product_from = mul_nonneg;
  product_at_most = mul_nonpos;
}
