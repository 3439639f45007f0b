use Rattle.std.proofs.Common.{◌<◌, ◌^◌, arith}
use Rattle.std.proofs.lemmas.Int.{ints}
use Rattle.std.specs.Int.RustNames.{unsigned_abs}
use Rattle.lhg_num.proofs.Made.{new_keeps, within, not_zero}
use Rattle.lhg_num.proofs.fraction.Frac.new.Goals as goal

pub invariant_of-result : goal.invariant_of-result
invariant_of-result c =
    let some : 0 < unsigned_abs c.args.d = omega (arith, ints) in
    let h : unsigned_abs c.args.n < 2 ^ 127 = omega (arith, ints) in
    let k : unsigned_abs c.args.d < 2 ^ 127 = omega (arith, ints) in
    (new_keeps c.args.n c.args.d some h k c.lowest-numerator.result c.lowest-numerator.ensures).stored

pub returns : goal.returns
returns c =
    let some : 0 < unsigned_abs c.args.d = omega (arith, ints) in
    let h : unsigned_abs c.args.n < 2 ^ 127 = omega (arith, ints) in
    let k : unsigned_abs c.args.d < 2 ^ 127 = omega (arith, ints) in
    (not_zero c.args.d some, within c.args.n c.args.d h k, (new_keeps c.args.n c.args.d some h k c.lowest-numerator.result c.lowest-numerator.ensures).same)
