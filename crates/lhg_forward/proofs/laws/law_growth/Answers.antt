use Rattle.lhg_forward.proofs.GrowthWalks.{whole_growth}
use Rattle.lhg_forward.proofs.laws.law_growth.Goals as goal

pub returns : goal.returns
returns c = λ a proper s region_is. whole_growth a proper s region_is
