use Rattle.lhg_num.proofs.Made.{inverse_fields}
use Rattle.lhg_num.proofs.fraction.Frac.inverted.Goals as goal

pub invariant_of-result : goal.invariant_of-result
invariant_of-result c = (inverse_fields c.self.inside c.self.invariant c.args.self.now c.self.view_is c.requires c.upright-numerator.result c.upright-numerator.ensures).stored

pub returns : goal.returns
returns c = (inverse_fields c.self.inside c.self.invariant c.args.self.now c.self.view_is c.requires c.upright-numerator.result c.upright-numerator.ensures).same
