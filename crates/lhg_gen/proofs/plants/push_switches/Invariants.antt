use Rattle.std.proofs.Common.{◌≡◌, ◌++◌, map}
use Rattle.std.specs.List.{flat_map, range_with_len}
use Rattle.lhg_row_text.specs.PrintedLine.{line}
use Rattle.lhg_gen.specs.GeneratedText.{switch_line}
use Rattle.lhg_gen.proofs.plants.push_switches.Given as goal

abbrev pub invariant-loop-i : goal.invariant-loop-i
invariant-loop-i l = l.text.items ≡ l.fn.text.items ++ flat_map line (map switch_line (range_with_len 1 l.i))
