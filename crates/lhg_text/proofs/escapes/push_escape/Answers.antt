use Rattle.std.proofs.Common.{rules, append_assoc}
use Rattle.std.proofs.lemmas.Result.{IfOk-equal}
use Rattle.lhg_plant.specs.Views.{plain_plant}
use Rattle.lhg_play.specs.Views.{plain_moves}
use Rattle.lhg_text.specs.EscapeText.{plain_exit}
use Rattle.lhg_text.proofs.EscapeParts.{escape_parts}
use Rattle.lhg_text.proofs.escapes.push_escape.Goals as goal

pub returns : goal.returns
returns c =
    let e = c.args.escape.now in
    rw (escape_parts (plain_plant c.args.plant.now) e.round (plain_moves e.play.moves.items) (plain_exit e.last)) (search (rules, IfOk-equal, append_assoc))
