use Rattle.lhg_whole.specs.ContentLaws.{one_is}
use Rattle.lhg_whole.proofs.whole.WholeScalar.one.Goals as goal

pub returns : goal.returns
returns c = one_is
