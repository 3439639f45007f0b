use Rattle.lhg_num.proofs.Fields.{neg_is_view}
use Rattle.lhg_num.proofs.fraction.FracScalar.neg.Goals as goal

pub returns : goal.returns
returns c = neg_is_view c.self.inside c.self.invariant c.args.self.now c.self.view_is
