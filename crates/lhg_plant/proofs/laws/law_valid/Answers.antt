use Rattle.lhg_plant.proofs.Settled.{secure_valid, settled_valid}
use Rattle.lhg_plant.proofs.laws.law_valid.Goals as goal

pub returns : goal.returns
returns c = λ a k. record { secure = secure_valid a k; settled = settled_valid a k }
