use Rattle.std.proofs.Common.{◌≡◌, ◌++◌, drop, map}
use Rattle.std.specs.List.{flat_map}
use Rattle.lhg_math.specs.Tests.{AllOf}
use Rattle.lhg_plant.specs.Views.{plain_location, plain_switch}
use Rattle.lhg_text.specs.PlantText.{switch_line}
use Rattle.lhg_row_text.specs.PrintedLine.{line}
use Rattle.lhg_row_text.specs.Short.{AllShort}
use Rattle.lhg_text.proofs.plants.push_switches.Given as goal

abbrev pub invariant-loop-i : goal.invariant-loop-i
invariant-loop-i l = record {
  text : l.text.items ++ flat_map line (map (switch_line l.vars (map plain_location l.locs)) (map plain_switch (drop l.i l.switches))) ≡ l.fn.text.items ++ flat_map line (map (switch_line l.vars (map plain_location l.locs)) (map plain_switch l.switches));
  short : AllOf (λ s. AllShort s.jump) (map plain_switch (drop l.i l.switches)) → AllOf (λ s. AllShort s.jump) (map plain_switch l.switches);
}
