use Rattle.lhg_whole.specs.ContentLaws.{zero_is}
use Rattle.lhg_whole.proofs.whole.WholeScalar.zero.Goals as goal

pub returns : goal.returns
returns c = zero_is
