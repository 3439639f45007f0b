use Rattle.std.proofs.Common.{◌≡◌, ◌++◌, drop, map}
use Rattle.std.specs.List.{flat_map}
use Rattle.lhg_plant.specs.Views.{plain_plant}
use Rattle.lhg_play.specs.Views.{plain_steps}
use Rattle.lhg_row_text.specs.PrintedLine.{line}
use Rattle.lhg_text.specs.TraceText.{step_line}
use Rattle.lhg_text.proofs.traces.push_steps.Given as goal

abbrev pub invariant-loop-i : goal.invariant-loop-i
invariant-loop-i l = l.text.items ++ flat_map line (map (step_line (plain_plant l.plant)) (plain_steps (drop l.i l.steps))) ≡ l.fn.text.items ++ flat_map line (map (step_line (plain_plant l.plant)) (plain_steps l.steps))
