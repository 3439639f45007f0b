use Rattle.lhg_num.proofs.Fields.{numerator_is}
use Rattle.lhg_num.proofs.fraction.Frac.numer.Goals as goal

pub returns-clause-value : goal.returns-clause-value
returns-clause-value c = numerator_is c.self.inside c.self.invariant c.args.self.now c.self.view_is
