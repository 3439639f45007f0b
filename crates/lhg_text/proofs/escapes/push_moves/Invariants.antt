use Rattle.std.proofs.Common.{◌≡◌, ◌++◌, drop, map}
use Rattle.std.specs.List.{flat_map}
use Rattle.lhg_plant.specs.Views.{plain_plant}
use Rattle.lhg_play.specs.Views.{plain_moves}
use Rattle.lhg_row_text.specs.PrintedLine.{line}
use Rattle.lhg_text.specs.EscapeText.{move_line}
use Rattle.lhg_text.proofs.escapes.push_moves.Given as goal

abbrev pub invariant-loop-i : goal.invariant-loop-i
invariant-loop-i l =
    let vars = (plain_plant l.plant).vars in
    l.text.items ++ flat_map line (map (move_line vars) (plain_moves (drop l.i l.moves))) ≡ l.fn.text.items ++ flat_map line (map (move_line vars) (plain_moves l.moves))
