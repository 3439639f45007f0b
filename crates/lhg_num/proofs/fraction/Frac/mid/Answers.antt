use Rattle.lhg_num.proofs.Middles.{mid_exact}
use Rattle.lhg_num.proofs.fraction.Frac.mid.Goals as goal

pub returns : goal.returns
returns c = mid_exact c.mul.result c.args.self.now c.args.other.now c.in_ok-sum.sum c.half.result c.in_ok-sum.ensures.0 c.in_ok-sum.ensures.1 c.half.ensures c.mul.ensures
