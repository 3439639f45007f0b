use Rattle.std.proofs.Common.{arith}
use Rattle.lhg_num.proofs.Euclid.{kept, ended_at_one, ended_at_zero}
use Rattle.lhg_num.proofs.divisors.gcd.Goals as goal

pub loop-y-preserved : goal.loop-y-preserved
loop-y-preserved c = kept c.args.a c.args.b c.loop-y.x c.loop-y.y c.loop-y.invariant

pub returns-then-y-eq1 : goal.returns-then-y-eq1
returns-then-y-eq1 c = ended_at_one c.args.a c.args.b c.loop-y.x c.loop-y.y (omega arith) c.loop-y.invariant

pub returns-else-y-eq1 : goal.returns-else-y-eq1
returns-else-y-eq1 c = ended_at_zero c.args.a c.args.b c.loop-y.x c.loop-y.y (omega arith) c.loop-y.invariant
