use Rattle.lhg_num.proofs.Made.{half_made}
use Rattle.lhg_num.proofs.fraction.Frac.half.Goals as goal

pub invariant_of-result : goal.invariant_of-result
invariant_of-result c = half_made.stored

pub returns : goal.returns
returns c = half_made.same
