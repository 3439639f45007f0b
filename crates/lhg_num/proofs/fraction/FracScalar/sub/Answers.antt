use Rattle.lhg_math.specs.Number.{Number, add, sub}
use Rattle.lhg_num.specs.Limits.{IsExact, frac_refuses_add}
use Rattle.std.proofs.Common.{◌≡◌, subst}
use Rattle.lhg_num.proofs.fraction.FracScalar.sub.Goals as goal

pub returns : goal.returns
unfolding sub
returns c = subst (λ (y : Number). IsExact c.add.result (frac_refuses_add c.args.self.now y) (λ r. r ≡ add c.args.self.now y)) c.neg.ensures c.add.ensures
