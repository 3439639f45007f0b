use Rattle.std.proofs.Common.{◌≡◌, subst}
use Rattle.lhg_math.specs.Number.{Number, whole, add, sub}
use Rattle.lhg_num.specs.Limits.{IsExact, is_past}
use Rattle.lhg_whole.proofs.whole.WholeScalar.sub.Goals as goal

pub returns : goal.returns
unfolding sub
returns c = subst (λ (y : Number). IsExact c.add.result (is_past (add (whole c.args.self.now) y).top) (λ r. whole r ≡ add (whole c.args.self.now) y)) c.neg.ensures c.add.ensures
