use Rattle.std.proofs.Common.{rules, append_assoc}
use Rattle.std.proofs.lemmas.Result.{IfOk-equal}
use Rattle.lhg_row_text.proofs.HeldNames.{location_at}
use Rattle.lhg_row_text.proofs.points.push_state.Goals as goal

pub returns : goal.returns
returns c =
    let name = location_at c.args.plant.now.locs.items c.args.state.now.loc c.index.result.now c.requires.place c.index.ensures in
    rw name (search (rules, IfOk-equal, append_assoc))
