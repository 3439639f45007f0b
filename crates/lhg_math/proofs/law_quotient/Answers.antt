use Rattle.lhg_math.specs.Quotients.{mul-inverse, quot-is, mul-quot, mid-mid}
use Rattle.lhg_math.specs.SignLaws.{abs_pos}
use Rattle.lhg_math.proofs.law_quotient.Goals as goal

pub returns : goal.returns
returns c = record { undone = λ x h. mul-inverse x (abs_pos x h); quotient = quot-is; times = λ s c h. mul-quot s c (abs_pos c h); middle = mid-mid }
