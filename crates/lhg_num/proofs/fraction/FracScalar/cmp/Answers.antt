use Rattle.lhg_num.proofs.Orders.{compared_some, compared_none}
use Rattle.lhg_num.proofs.fraction.FracScalar.cmp.Goals as goal

pub returns-in-Some : goal.returns-in-Some
returns-in-Some c = compared_some c.self.inside c.other.inside c.self.invariant c.other.invariant c.args.self.now c.args.other.now c.self.view_is c.other.view_is _ _ c.cmp.result c.in-Some.ensures c.cmp.ensures

pub returns-in-None : goal.returns-in-None
returns-in-None c = compared_none c.self.inside c.other.inside c.self.invariant c.other.invariant c.args.self.now c.args.other.now c.self.view_is c.other.view_is c.in-None.ensures
