use Rattle.std.proofs.Common.{◌≡◌, ◌++◌}
use Rattle.std.specs.List.{flat_map, range_with_len}
use Rattle.lhg_row_text.specs.PrintedLine.{line}
use Rattle.lhg_gen.specs.GeneratedText.{location_lines}
use Rattle.lhg_gen.proofs.plants.push_locations.Given as goal

abbrev pub invariant-loop-i : goal.invariant-loop-i
invariant-loop-i l = l.text.items ≡ l.fn.text.items ++ flat_map line (flat_map location_lines (range_with_len 1 l.i))
