use Rattle.lhg_ctl.proofs.MakingLawProofs.{making_laws}
use Rattle.lhg_ctl.proofs.laws.law_making.Goals as goal

pub returns : goal.returns
returns c = making_laws
