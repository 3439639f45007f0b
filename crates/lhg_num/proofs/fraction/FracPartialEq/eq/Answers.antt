use Rattle.std.proofs.Common.{◌∙◌}
use Rattle.lhg_num.proofs.Same.{same_fields}
use Rattle.lhg_num.proofs.fraction.FracPartialEq.eq.Goals as goal

pub returns : goal.returns
returns c = c.same.ensures ∙ same_fields c.self.inside c.other.inside c.self.invariant c.other.invariant c.args.self.now c.args.other.now c.self.view_is c.other.view_is
