use Rattle.std.proofs.Common.{◌<◌, ◌+◌, ◌-◌, ◌≡◌, length, refl, arith}
use Rattle.lhg_read.specs.PlantSteps.{with_inv}
use Rattle.lhg_read.proofs.DraftSteps.{set_last}
use Rattle.lhg_read.proofs.draft.set_inv.Goals as goal

pub returns : goal.returns
returns c =
    let some : 0 < length c.args.locs.now.items = omega (arith, c.requires, c.args.locs.now.ok.0) in
    let last : c.len-last.result - 1 + 1 ≡ length c.args.locs.now.items = omega (arith, c.requires, c.len-last.ensures, c.args.locs.now.ok.0) in
    set_last (with_inv c.args.rows.items) c.args.locs.now.items (c.len-last.result - 1) c.index_mut-l.result.now _ c.index_mut-l.result.now some last c.index_mut-l.ensures.value refl
