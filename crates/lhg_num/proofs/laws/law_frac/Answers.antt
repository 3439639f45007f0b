use Rattle.lhg_num.specs.FracArithmetic.{frac_is_lawful}
use Rattle.lhg_num.proofs.laws.law_frac.Goals as goal

pub returns : goal.returns
returns c = frac_is_lawful
