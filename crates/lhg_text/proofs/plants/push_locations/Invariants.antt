use Rattle.std.proofs.Common.{◌≡◌, ◌++◌, drop, map}
use Rattle.std.specs.List.{flat_map}
use Rattle.lhg_math.specs.Tests.{AllOf}
use Rattle.lhg_plant.specs.Views.{plain_location}
use Rattle.lhg_text.specs.PlantText.{location_lines}
use Rattle.lhg_row_text.specs.PrintedLine.{line}
use Rattle.lhg_text.specs.ShortPlant.{IsShortLocation}
use Rattle.lhg_text.proofs.plants.push_locations.Given as goal

abbrev pub invariant-loop-i : goal.invariant-loop-i
invariant-loop-i l = record {
  text : l.text.items ++ flat_map line (flat_map (location_lines l.vars) (map plain_location (drop l.i l.locs))) ≡ l.fn.text.items ++ flat_map line (flat_map (location_lines l.vars) (map plain_location l.locs));
  short : AllOf IsShortLocation (map plain_location (drop l.i l.locs)) → AllOf IsShortLocation (map plain_location l.locs);
}
