use Rattle.lhg_math.specs.Number.{nought}
use Rattle.lhg_num.proofs.fraction.FracScalar.zero.Goals as goal

pub returns : goal.returns
unfolding nought
returns c = c.from.ensures
