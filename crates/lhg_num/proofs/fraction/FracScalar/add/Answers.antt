use Rattle.lhg_math.specs.Number.{add}
use Rattle.lhg_num.specs.Limits.{frac_refuses_add}
use Rattle.lhg_num.proofs.Results.{IsResult, sum_some, sum_none}
use Rattle.lhg_num.proofs.fraction.FracScalar.add.Goals as goal

result_of : (c : goal.In-Some) → IsResult (frac_refuses_add c.args.self.now c.args.other.now) (add c.args.self.now c.args.other.now) c.in-Some.numerator c.in-Some.denominator
result_of c = sum_some c.self.inside c.other.inside c.self.invariant c.other.invariant c.args.self.now c.args.other.now c.self.view_is c.other.view_is _ _ c.in-Some.ensures

pub invariant_of-result : goal.invariant_of-result
invariant_of-result c = (result_of c).keeps.stored

pub returns-in-Some : goal.returns-in-Some
returns-in-Some c = let r = result_of c in (r.kept, r.keeps.same)

pub returns-in-None : goal.returns-in-None
returns-in-None c = sum_none c.self.inside c.other.inside c.self.invariant c.other.invariant c.args.self.now c.args.other.now c.self.view_is c.other.view_is c.in-None.ensures
