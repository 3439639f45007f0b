use Rattle.std.proofs.Common.{◌≡◌, ◌++◌, drop}
use Rattle.std.specs.List.{flat_map}
use Rattle.lhg_plant.specs.Views.{plain_plant}
use Rattle.lhg_play.specs.Views.{plain_spoil_steps}
use Rattle.lhg_text.specs.SpoilText.{spoil_step_text}
use Rattle.lhg_text.proofs.spoils.push_steps.Given as goal

abbrev pub invariant-loop-i : goal.invariant-loop-i
invariant-loop-i l = l.text.items ++ flat_map (spoil_step_text (plain_plant l.plant)) (plain_spoil_steps (drop l.i l.steps)) ≡ l.fn.text.items ++ flat_map (spoil_step_text (plain_plant l.plant)) (plain_spoil_steps l.steps)
