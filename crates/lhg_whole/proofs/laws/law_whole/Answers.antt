use Rattle.lhg_whole.specs.WholeArithmetic.{whole_is_lawful}
use Rattle.lhg_whole.proofs.laws.law_whole.Goals as goal

pub returns : goal.returns
returns c = whole_is_lawful
