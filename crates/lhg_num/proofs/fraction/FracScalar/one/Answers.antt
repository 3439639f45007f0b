use Rattle.lhg_math.specs.Number.{unit}
use Rattle.lhg_num.proofs.fraction.FracScalar.one.Goals as goal

pub returns : goal.returns
unfolding unit
returns c = c.from.ensures
