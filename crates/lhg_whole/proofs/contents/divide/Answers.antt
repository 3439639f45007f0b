use Rattle.std.proofs.Common.{ℤ, to_z, of_z}
use Rattle.std.specs.Int.{w128}
use Rattle.std.specs.Int.RustNames.{int_div}
use Rattle.lhg_whole.proofs.Steps.{set-done}
use Rattle.lhg_whole.proofs.contents.divide.Goals as goal

pub loop-i-preserved : goal.loop-i-preserved
loop-i-preserved c =
    let f = λ (z : ℤ). int_div z (to_z w128 (of_z w128 c.args.g)) in
    set-done f c.args.row.now c.loop-i.row c.loop-i.i c.index-row-i.result c.over.result c.loop-i.invariant c.loop-i-test.true c.index-row-i.is c.over.ensures
