use Rattle.lhg_num.proofs.Fields.{denominator_is}
use Rattle.lhg_num.proofs.fraction.Frac.denom.Goals as goal

pub returns-clause-value : goal.returns-clause-value
returns-clause-value c = denominator_is c.self.inside c.self.invariant c.args.self.now c.self.view_is
