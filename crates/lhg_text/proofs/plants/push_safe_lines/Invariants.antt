use Rattle.std.proofs.Common.{◌≡◌, ◌++◌, drop, map}
use Rattle.std.specs.List.{flat_map}
use Rattle.lhg_math.specs.Tests.{AllOf}
use Rattle.lhg_text.specs.PlantText.{safe_line}
use Rattle.lhg_row_text.specs.PrintedLine.{line}
use Rattle.lhg_row_text.specs.Short.{AllShort}
use Rattle.lhg_text.proofs.plants.push_safe_lines.Given as goal

abbrev pub invariant-loop-i : goal.invariant-loop-i
invariant-loop-i l = record {
  text : l.text.items ++ flat_map line (map (safe_line l.vars) (map (λ rows. rows.items) (drop l.i l.safe))) ≡ l.fn.text.items ++ flat_map line (map (safe_line l.vars) (map (λ rows. rows.items) l.safe));
  short : AllOf AllShort (map (λ rows. rows.items) (drop l.i l.safe)) → AllOf AllShort (map (λ rows. rows.items) l.safe);
}
