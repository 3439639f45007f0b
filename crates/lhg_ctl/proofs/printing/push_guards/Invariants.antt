use Rattle.std.proofs.Common.{◌≡◌, ◌++◌, drop, map, length, codes}
use Rattle.std.specs.List.{flat_map}
use Rattle.lhg_math.specs.Tests.{AllOf}
use Rattle.lhg_union.specs.Regions.{plain_region}
use Rattle.lhg_row_text.specs.PrintedLine.{line}
use Rattle.lhg_ctl.specs.NamedLines.{named_lines}
use Rattle.lhg_ctl.specs.Written.{IsWritten}
use Rattle.lhg_ctl.proofs.printing.push_guards.Given as goal

abbrev pub invariant-loop-i : goal.invariant-loop-i
invariant-loop-i l = record {
  text : l.text.items ++ flat_map line (named_lines (codes "guard") (map (λ s. s.name) (drop l.i l.plant.switches.items)) l.plant.vars.items (plain_region (drop l.i l.guards))) ≡ l.fn.text.items ++ flat_map line (named_lines (codes "guard") (map (λ s. s.name) l.plant.switches.items) l.plant.vars.items (plain_region l.guards));
  written : AllOf (AllOf (IsWritten (length l.plant.vars.items))) (plain_region (drop l.i l.guards)) → AllOf (AllOf (IsWritten (length l.plant.vars.items))) (plain_region l.guards);
}
