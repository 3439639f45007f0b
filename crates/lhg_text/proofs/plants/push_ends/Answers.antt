use Rattle.std.proofs.Common.{rules, append_assoc}
use Rattle.std.proofs.lemmas.Result.{IfOk-equal}
use Rattle.lhg_row_text.proofs.HeldNames.{location_at}
use Rattle.lhg_text.proofs.plants.push_ends.Goals as goal

pub returns : goal.returns
returns c =
    let from = location_at c.args.locs.now c.args.switch.now.from c.index-locs-switch.result c.requires.from c.index-locs-switch.is in
    let to = location_at c.args.locs.now c.args.switch.now.to c.index-locs-switch-2.result c.requires.to c.index-locs-switch-2.is in
    rw (from, to) (search (rules, IfOk-equal, append_assoc))
