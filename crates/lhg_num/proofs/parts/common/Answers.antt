use Rattle.std.proofs.Common.{arith, pos, ap, ◌∙◌}
use Rattle.std.proofs.lemmas.Int.{ints, to_z_pos}
use Rattle.std.specs.Int.{w128}
use Rattle.lhg_num.proofs.Commons.{IsCommon, is_common}
use Rattle.lhg_num.proofs.parts.common.Goals as goal

common_of : (c : goal.After-gcd) → IsCommon c.args.n c.args.d c.gcd.result
common_of c = is_common c.args.n c.args.d c.gcd.result _ _ c.requires c.ranges.n c.ranges.d c.unsigned_abs.ensures.value c.unsigned_abs-2.ensures.value c.gcd.ensures

pub overflow_cast-result : goal.overflow_cast-result
overflow_cast-result c = record { sfits = (common_of c).below }

pub returns-clause-value : goal.returns-clause-value
returns-clause-value c = let g = common_of c in to_z_pos w128 c.gcd.result g.below ∙ ap pos g.value

pub returns-clause-above : goal.returns-clause-above
returns-clause-above c = let g = common_of c in omega (arith, ints, g)
