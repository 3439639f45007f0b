use Rattle.std.proofs.Common.{◌≡◌, ◌++◌, drop, map}
use Rattle.std.specs.List.{flat_map}
use Rattle.lhg_math.specs.Tests.{AllOf}
use Rattle.lhg_plant.specs.Views.{plain_plant}
use Rattle.lhg_plant.specs.Word.{IsName}
use Rattle.lhg_row_text.specs.PrintedLine.{line}
use Rattle.lhg_row_text.specs.Short.{AllShort}
use Rattle.lhg_ctl.specs.ControllerText.{named_guard_lines}
use Rattle.lhg_ctl.specs.Views.{plain_placed}
use Rattle.lhg_ctl.proofs.draft_printing.push_guards.Given as goal

abbrev pub invariant-loop-i : goal.invariant-loop-i
invariant-loop-i l = record {
  text : l.text.items ++ flat_map line (named_guard_lines (plain_plant l.plant) (drop l.i l.names) (map plain_placed (drop l.i l.guards))) ≡ l.fn.text.items ++ flat_map line (named_guard_lines (plain_plant l.plant) l.names (map plain_placed l.guards));
  short : AllOf (λ g. AllShort g.1) (map plain_placed (drop l.i l.guards)) → AllOf (λ g. AllShort g.1) (map plain_placed l.guards);
  named : AllOf IsName (drop l.i l.names) → AllOf IsName l.names;
}
