use Rattle.lhg_num.proofs.Made.{whole_made}
use Rattle.lhg_num.proofs.fraction.FracFromI64.from.Goals as goal

pub invariant_of-result : goal.invariant_of-result
invariant_of-result c = (whole_made c.args.n c.ranges.n).stored

pub returns : goal.returns
returns c = (whole_made c.args.n c.ranges.n).same
