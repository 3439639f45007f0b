use Rattle.lhg_quiet.proofs.Masking.{masked_laws}
use Rattle.lhg_quiet.proofs.laws.law_masked.Goals as goal

pub returns : goal.returns
returns c = masked_laws
