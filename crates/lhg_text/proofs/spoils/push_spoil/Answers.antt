use Rattle.std.proofs.Common.{◌++◌, ◌∷◌, codes}
use Rattle.std.specs.List.{flat_map}
use Rattle.std.specs.Option.{option_map, option_copied}
use Rattle.lhg_plant.specs.Views.{plain_plant, plain_state}
use Rattle.lhg_play.specs.Views.{plain_spoil_steps}
use Rattle.lhg_row_text.specs.PointText.{state_text}
use Rattle.lhg_row_text.specs.PrintedLine.{line}
use Rattle.lhg_text.specs.SpoilText.{spoil_step_text, unsafe_lines}
use Rattle.lhg_text.specs.TraceText.{last_line}
use Rattle.lhg_text.proofs.SpoilParts.{spoil_parts, four_more, last_more}
use Rattle.lhg_text.proofs.spoils.push_spoil.Goals as goal

pub returns : goal.returns
returns c =
    let p = plain_plant c.args.plant.now in
    let z = plain_state c.args.start.now in
    let steps = plain_spoil_steps c.args.steps.now in
    let last = option_map plain_state (option_copied c.args.last) in
    let head = line (codes "spoil 1") in
    let start = line (codes "start" ++ 32 ∷ state_text p z) in
    let told = flat_map (spoil_step_text p) steps in
    let won = flat_map line (unsafe_lines p last) in
    let before = c.args.text.now.items in
    let front =
    four_more before c.extend_from_slice.new.self.items c.push_start.new.text.items c.push_steps.new.text.items c.push_won.new.text.items head start told won c.in_ok-extend_from_slice.ensures.items c.in_ok-push_start.ensures c.in_ok-push_steps.ensures
    c.in_ok-push_won.ensures in
    last_more c.push_last.result before c.push_won.new.text.items c.push_last.new.text.items head start told won (line (last_line c.args.illegal)) _ c.push_last.ensures front (spoil_parts p z steps last c.args.illegal)
